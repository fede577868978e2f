-- A text that has a problem is read.
use Rattle.std.proofs.Common.{◌≡◌, ℕ, ◌+◌, ◌≤◌, List, [], ◌∷◌, ◌++◌, length, Some, None, Ok, Err, Bool, true, false, cond, refl, sym, ap, ◌∙◌, arith, append_assoc, append-nil, length-append, map, take, drop, get_or, not, ◌==◌, ◌||◌, ◌&&◌, nat_lt, nat_le, nat_eq, is_some, count_by, add-one}
use Rattle.std.specs.List.{list_any, list_all, sum_by, flat_map}
use Rattle.std.specs.Cmp.Lexicographic.{pointwise, bytes_decides}
use Rattle.std.proofs.lemmas.Bool.{and_parts, and_from, or_parts, or_from, not-true, not_from_false, leb-true, le-ltb, ltb-true, eqb-true, eqb-false, ne_eqb, true≢false}
use Rattle.std.proofs.lemmas.Grind.{flat_map-append}
use Rattle.std.proofs.lemmas.List.{map-append}
use Rattle.std.proofs.lemmas.List.Elements.{filter-append}
use Rattle.std.proofs.lemmas.List.Folds.{list_all-append}
use Rattle.std.proofs.lemmas.List.Sums.{sum_by-cons, sum_by-append, AllPass-from_list_all, list_all-from_AllPass}
use Rattle.std.proofs.Math.Dec.{eqb-suc-zero}
use Rattle.cover_problem.specs.Numbers.{is_in, is_distinct, are_below, some_below}
use Rattle.cover_problem.specs.Problem.{Problem, forbidden, is_name, names_differ}
use Rattle.dlx_reader.specs.Content.{begins_with_bar, content_of}
use Rattle.dlx_reader.specs.Faults.{first_of, placed, is_illegal, name_tests, part_tests, item_tests, option_tests, limit_tests}
use Rattle.dlx_reader.specs.Items.{name_part, names_in, primary_in, primary_names}
use Rattle.dlx_reader.specs.Options.{KeptOptions}
use Rattle.dlx_reader.specs.Names.{is_among, item_named}
use Rattle.dlx_reader.specs.Occurrences.{has_colon, item_part, colour_part}
use Rattle.dlx_reader.specs.OptionLines.{names_of, names_primary, is_occurrence, is_option_line, kept_lines, colours_in, names_of_colours}
use Rattle.dlx_reader.specs.ProblemOf.{IsProblemIn, IsProblemOf}
use Rattle.dlx_reader.specs.Reading.{after, add_name, item_at, items_from, options_from, none_kept, reading_of, read_by}
use Rattle.dlx_reader.specs.declared.fault.ReadFault.{ReadFault}
use Rattle.dlx_reader.proofs.Colours.{different, different-le}
use Rattle.dlx_reader.proofs.Differing.{same_name}
use Rattle.dlx_reader.proofs.FirstFaults.{keeps_counts, word_tests, line_tests, options_fault, words_in-push}
use Rattle.dlx_reader.proofs.Firsts.{Fails, none_from_fails}
use Rattle.dlx_reader.proofs.ItemLines.{add_names, length-add}
use Rattle.dlx_reader.proofs.Naming.{named_at, is_some-named}
use Rattle.dlx_reader.proofs.OptionLines.{Stands, is_option, none_stands, options_stand, words_in}
use Rattle.dlx_reader.proofs.Parts.{no_colon}
use Rattle.dlx_reader.proofs.Placed.{or_first, first_of-append, fault_of, given, after_is, placed_from, placed_from-start, first_of-placed}

-- where no test holds
after_passes : {A : Type 0} (tests : List (Bool × ReadFault)) (x : A) → Fails tests → after tests x ≡ Ok x
after_passes tests x fails = after_is tests x ∙ ap (λ found. given found x) (none_from_fails tests fails)

-- ---- names

byte_legal : (byte : ℕ) → is_in forbidden byte ≡ false → is_illegal byte ≡ false
byte_legal byte h =
    let zero_byte = or_parts (0 == byte) (is_in (9 ∷ 10 ∷ 11 ∷ 12 ∷ 13 ∷ 32 ∷ 58 ∷ 124 ∷ []) byte) h in
    let tab = or_parts (9 == byte) (is_in (10 ∷ 11 ∷ 12 ∷ 13 ∷ 32 ∷ 58 ∷ 124 ∷ []) byte) zero_byte.1 in
    let line_end = or_parts (10 == byte) (is_in (11 ∷ 12 ∷ 13 ∷ 32 ∷ 58 ∷ 124 ∷ []) byte) tab.1 in
    let upright = or_parts (11 == byte) (is_in (12 ∷ 13 ∷ 32 ∷ 58 ∷ 124 ∷ []) byte) line_end.1 in
    let feed = or_parts (12 == byte) (is_in (13 ∷ 32 ∷ 58 ∷ 124 ∷ []) byte) upright.1 in
    let return = or_parts (13 == byte) (is_in (32 ∷ 58 ∷ 124 ∷ []) byte) feed.1 in
    let space = or_parts (32 == byte) (is_in (58 ∷ 124 ∷ []) byte) return.1 in
    let colon = or_parts (58 == byte) (is_in (124 ∷ []) byte) space.1 in
    let bar = or_parts (124 == byte) false colon.1 in
    rw (flip 0 byte zero_byte.0, flip 58 byte colon.0, flip 124 byte bar.0) refl
  where
    flip : (a b : ℕ) → (a == b) ≡ false → (b == a) ≡ false
    flip a b h = ne_eqb b a (λ e. eqb-false a b h (sym e))

bytes_legal : (name : List ℕ) → list_all (λ byte. not (is_in forbidden byte)) name ≡ true → list_any is_illegal name ≡ false
bytes_legal [] h = refl
bytes_legal (byte ∷ bytes) h =
    let parts = and_parts (not (is_in forbidden byte)) (list_all (λ b. not (is_in forbidden b)) bytes) h in
    or_from (is_illegal byte) (list_any is_illegal bytes) (byte_legal byte (not-true (is_in forbidden byte) parts.0)) (bytes_legal bytes parts.1)

-- a name passes the tests
name_passes : (line : ℕ) (name : List ℕ) → is_name name ≡ true → Fails (name_tests line name)
name_passes line name h =
    let parts = and_parts (nat_le 1 (length name) && nat_le (length name) 32) (list_all (λ byte. not (is_in forbidden byte)) name) h in
    let bounds = and_parts (nat_le 1 (length name)) (nat_le (length name) 32) parts.0 in
    (bytes_legal name parts.1, (le-ltb 32 (length name) (leb-true (length name) 32 bounds.1), tt))

-- no bytes are no name
none_empty : (names : List (List ℕ)) → list_all is_name names ≡ true → is_among names [] ≡ false
none_empty [] h = refl
none_empty ([] ∷ names) h = absurd (cc)
none_empty ((byte ∷ bytes) ∷ names) h = none_empty names (and_parts (is_name (byte ∷ bytes)) (list_all is_name names) h).1

-- of names that differ, an earlier one is no later one
differ_apart : (names : List (List ℕ)) (name : List ℕ) (rest : List (List ℕ)) → names_differ (names ++ name ∷ rest) ≡ true → is_among names name ≡ false
differ_apart [] name rest h = refl
differ_apart (first ∷ names) name rest h =
    let parts = and_parts (not (list_any (pointwise nat_eq first) (names ++ name ∷ rest))) (names_differ (names ++ name ∷ rest)) h in
    or_from (pointwise nat_eq first name) (is_among names name) (later names (not-true (list_any (pointwise nat_eq first) (names ++ name ∷ rest)) parts.0)) (differ_apart names name rest parts.1)
  where
    later : (others : List (List ℕ)) → list_any (pointwise nat_eq first) (others ++ name ∷ rest) ≡ false → pointwise nat_eq first name ≡ false
    later [] e = (or_parts (pointwise nat_eq first name) (list_any (pointwise nat_eq first) rest) e).0
    later (other ∷ others) e = later others (or_parts (pointwise nat_eq first other) (list_any (pointwise nat_eq first) (others ++ name ∷ rest)) e).1

-- ---- the item line

-- a word that gives a new lawful name, or none, has no illegal byte, is short, and is not among the names
word_passes : (line : ℕ) (names : List (List ℕ)) (name : List ℕ) (rest : List (List ℕ)) → list_all is_name (names ++ cond (not (length name == 0)) (name ∷ rest) rest) ≡ true → names_differ (names ++ cond (not (length name == 0)) (name ∷ rest) rest) ≡ true → Fails (name_tests line name) × (is_among names name ≡ false)
word_passes line names [] rest lawful differ = ((refl, (refl, tt)), none_empty names (and_parts (list_all is_name names) (list_all is_name rest) (sym (list_all-append is_name names rest) ∙ lawful)).0)
word_passes line names (byte ∷ bytes) rest lawful differ =
    let each = rw (eqb-suc-zero (length bytes)) at lawful in
    let apart = rw (eqb-suc-zero (length bytes)) at differ in
    let parts = and_parts (list_all is_name names) (list_all is_name ((byte ∷ bytes) ∷ rest)) (sym (list_all-append is_name names ((byte ∷ bytes) ∷ rest)) ∙ each) in
    (name_passes line (byte ∷ bytes) (and_parts (is_name (byte ∷ bytes)) (list_all is_name rest) parts.1).0, differ_apart names (byte ∷ bytes) rest apart)

one_bar : (divided bar : Bool) (count : ℕ) → (cond bar 1 0 + count) + cond divided 1 0 ≤ 1 → ((divided && bar) ≡ false) × (count + cond (divided || bar) 1 0 ≤ 1)
one_bar true true count h = absurd (omega arith)
one_bar true false count h = (refl, omega arith)
one_bar false true count h = (refl, omega arith)
one_bar false false count h = (refl, omega arith)

items_whole : (line : ℕ) (names : List (List ℕ)) (divided : Bool) (words : List (List ℕ)) → list_all is_name (names ++ names_in words) ≡ true → names_differ (names ++ names_in words) ≡ true → length (names ++ names_in words) ≤ 1000 → count_by begins_with_bar words + cond divided 1 0 ≤ 1 → items_from line names divided words ≡ Ok (names ++ names_in words)
unfolding items_from item_at
items_whole line names divided [] lawful differ room bars = ap Ok (sym (append-nil names))
items_whole line names divided (word ∷ words) lawful differ room bars =
    let name : List ℕ = name_part word in
    let whole : add_name names name ++ names_in words ≡ names ++ names_in (word ∷ words) = add_names names (names_in words) name in
    let passes = word_passes line names (name_part word) (names_in words) lawful differ in
    let bar = one_bar divided (begins_with_bar word) (count_by begins_with_bar words) (rw (← sum_by-cons (λ w. cond (begins_with_bar w) 1 0) word words) bars) in
    let short : length names + length (names_in (word ∷ [])) ≤ 1000 = omega (arith, length-add names (name_part word), length-append (add_name names (name_part word)) (names_in words), ap length whole) in
    let fails : Fails (item_tests line names divided word) = (passes.0.0, (passes.0.1.0, (passes.1, (bar.0, (le-ltb 1000 (length names + length (names_in (word ∷ []))) short, tt))))) in
    rw (after_passes {A = List (List ℕ) × Bool} (item_tests line names divided word) (add_name names (name_part word), divided || begins_with_bar word) fails)
    (items_whole line (add_name names (name_part word)) (divided || begins_with_bar word) words (rw whole lawful) (rw whole differ) (rw whole room) bar.1 ∙ ap Ok whole)

-- ---- an option's line

-- a name among lawful ones is lawful
among_lawful : (names : List (List ℕ)) (name : List ℕ) → list_all is_name names ≡ true → is_among names name ≡ true → is_name name ≡ true
among_lawful names name each among =
    (elim (item_named names name) as (λ found. item_named names name ≡ found → is_name name ≡ true) [
      | None ↦ λ e. absurd (true≢false (sym among ∙ sym (is_some-named names name) ∙ ap is_some e))
      | Some item ↦ λ e. let at_item = named_at names name item e in ap is_name (sym at_item.1) ∙ AllPass-from_list_all is_name names each item [] at_item.0
    ]) refl

name_some : (name : List ℕ) → is_name name ≡ true → (length name == 0) ≡ false
name_some name h =
    let parts = and_parts (nat_le 1 (length name) && nat_le (length name) 32) (list_all (λ byte. not (is_in forbidden byte)) name) h in
    let bounds = and_parts (nat_le 1 (length name)) (nat_le (length name) 32) parts.0 in
    ne_eqb (length name) 0 (λ none. omega (arith, none, leb-true 1 (length name) bounds.0))

-- the parts of a word that may stand in an option pass the tests
parts_pass : (line : ℕ) (names first_names : List (List ℕ)) (word : List ℕ) → list_all is_name names ≡ true → is_occurrence names first_names word ≡ true → Fails (part_tests line (has_colon word) (item_part word) (colour_part word)) × ((has_colon word && is_among first_names (item_part word)) ≡ false)
parts_pass line names first_names word lawful occurs =
    let parts = and_parts (is_among names (item_part word)) (not (has_colon word) || (is_name (colour_part word) && not (is_among first_names (item_part word)))) occurs in
    let name : is_name (item_part word) ≡ true = among_lawful names (item_part word) lawful parts.0 in
    (elim (has_colon word) as (λ b. has_colon word ≡ b → (not b || (is_name (colour_part word) && not (is_among first_names (item_part word)))) ≡ true → Fails (part_tests line b (item_part word) (colour_part word)) × ((b && is_among first_names (item_part word)) ≡ false)) [
      | true ↦ λ colon coloured.
          let two = and_parts (is_name (colour_part word)) (not (is_among first_names (item_part word))) coloured in
          let own = name_passes line (item_part word) name in
          let behind = name_passes line (colour_part word) two.0 in (
            (
              or_from (list_any is_illegal (item_part word)) (list_any is_illegal (colour_part word)) own.0 behind.0,
              (own.1.0, (or_from (length (item_part word) == 0 || length (colour_part word) == 0) (nat_lt 32 (length (colour_part word))) (or_from (length (item_part word) == 0) (length (colour_part word) == 0) (name_some (item_part word) name) (name_some (colour_part word) two.0)) behind.1.0, tt)),
            ),
            not-true (is_among first_names (item_part word)) two.1,
          )
      | false ↦ λ none plain.
          let own = name_passes line (item_part word) name in
          let empty : list_any is_illegal (colour_part word) ≡ false = ap (list_any is_illegal) (no_colon word none).1 in
          ((or_from (list_any is_illegal (item_part word)) (list_any is_illegal (colour_part word)) own.0 empty, (own.1.0, (refl, tt))), refl)
    ]) refl parts.1

word_passes_tests : (line : ℕ) (names first_names before : List (List ℕ)) (word : List ℕ) → list_all is_name names ≡ true → is_occurrence names first_names word ≡ true → is_among (map item_part before) (item_part word) ≡ false → first_of (option_tests line names first_names before word) ≡ None
word_passes_tests line names first_names before word lawful occurs fresh =
    let among = (and_parts (is_among names (item_part word)) (not (has_colon word) || (is_name (colour_part word) && not (is_among first_names (item_part word)))) occurs).0 in
    let passes = parts_pass line names first_names word lawful occurs in
    none_from_fails (option_tests line names first_names before word) (passes.0.0, (passes.0.1.0, (passes.0.1.1.0, (ap not among, (fresh, (passes.1, tt))))))

words_pass : (line : ℕ) (names first_names before words : List (List ℕ)) → list_all is_name names ≡ true → list_all (is_occurrence names first_names) words ≡ true → names_differ (map item_part before ++ map item_part words) ≡ true → first_of (flat_map (word_tests line names first_names) (placed_from before words)) ≡ None
words_pass line names first_names before [] lawful occur differ = refl
words_pass line names first_names before (word ∷ words) lawful occur differ =
    let parts = and_parts (is_occurrence names first_names word) (list_all (is_occurrence names first_names) words) occur in
    let fresh = differ_apart (map item_part before) (item_part word) (map item_part words) differ in
    let further : map item_part (before ++ word ∷ []) ++ map item_part words ≡ map item_part before ++ item_part word ∷ map item_part words =
    ap (λ front. front ++ map item_part words) (map-append item_part before (word ∷ [])) ∙ append_assoc (map item_part before) (item_part word ∷ []) (map item_part words) in
    first_of-placed (word_tests line names first_names) before word words
    ∙ ap (λ found. or_first found (first_of (flat_map (word_tests line names first_names) (placed_from (before ++ word ∷ []) words)))) (word_passes_tests line names first_names before word lawful parts.0 fresh)
    ∙ words_pass line names first_names (before ++ word ∷ []) words lawful parts.1 (rw further differ)

line_passes : (line : ℕ) (names first_names words : List (List ℕ)) → list_all is_name names ≡ true → is_option_line names first_names words ≡ true → first_of (flat_map (word_tests line names first_names) (placed words)) ≡ None
line_passes line names first_names words lawful is =
    let parts = and_parts (list_all (is_occurrence names first_names) words) (names_differ (map item_part words)) is in
    ap (λ places. first_of (flat_map (word_tests line names first_names) places)) (sym (placed_from-start words)) ∙ words_pass line names first_names [] words lawful parts.0 parts.1

-- ---- the limits

-- lines that keep them
pub record KeepLimits (lines : List (List (List ℕ))) : Type 0 where
  pub count : length lines ≤ 20000
  pub occurrences : sum_by length lines ≤ 200000
  pub colours : length (colours_in lines) ≤ 10000

-- so do the first of them
first_keep : (lines more : List (List (List ℕ))) → KeepLimits (lines ++ more) → KeepLimits lines
first_keep lines more limits = record {
  count = omega (arith, limits.count, length-append lines more);
  occurrences = omega (arith, limits.occurrences, sum_by-append length lines more);
  colours =
      omega (arith, limits.colours, different-le (flat_map (map colour_part) lines) (flat_map (map colour_part) more), ap (λ cs. length (different cs)) (flat_map-append (map colour_part) lines more));
}

limits_pass : (line : ℕ) (lines : List (List (List ℕ))) → KeepLimits lines → first_of (limit_tests line lines) ≡ None
limits_pass line lines limits = rw (le-ltb 20000 (length lines) limits.count, le-ltb 200000 (sum_by length lines) limits.occurrences, le-ltb 10000 (length (colours_in lines)) limits.colours) refl

lines_pass : (names first_names : List (List ℕ)) (before lines : List (ℕ × List (List ℕ))) → list_all is_name names ≡ true → list_all (is_option_line names first_names) (words_in lines) ≡ true → KeepLimits (kept_lines first_names (words_in before ++ words_in lines)) → first_of (flat_map (line_tests names first_names) (placed_from before lines)) ≡ None
lines_pass names first_names before [] lawful each limits = refl
lines_pass names first_names before (line ∷ lines) lawful each limits =
    let parts = and_parts (is_option_line names first_names line.1) (list_all (is_option_line names first_names) (words_in lines)) each in
    let further : words_in (before ++ line ∷ []) ++ words_in lines ≡ words_in before ++ line.1 ∷ words_in lines =
    ap (λ front. front ++ words_in lines) (words_in-push before line) ∙ append_assoc (words_in before) (line.1 ∷ []) (words_in lines) in
    let all : KeepLimits (kept_lines first_names (words_in (before ++ line ∷ []) ++ words_in lines)) = rw further limits in
    let here : KeepLimits (kept_lines first_names (words_in (before ++ line ∷ []))) =
    first_keep (kept_lines first_names (words_in (before ++ line ∷ []))) (kept_lines first_names (words_in lines)) (rw (filter-append (names_primary first_names) (words_in (before ++ line ∷ [])) (words_in lines)) at all) in
    let tests = flat_map (word_tests line.0 names first_names) (placed line.1) in
    let limit = limit_tests line.0 (kept_lines first_names (words_in (before ++ line ∷ []))) in
    let own : first_of tests ≡ None = line_passes line.0 names first_names line.1 lawful parts.0 in
    let none : first_of (tests ++ limit) ≡ None = first_of-append tests limit ∙ ap (λ found. or_first found (first_of limit)) own ∙ limits_pass line.0 (kept_lines first_names (words_in (before ++ line ∷ []))) here in
    first_of-placed (line_tests names first_names) before line lines
    ∙ ap (λ found. or_first found (first_of (flat_map (line_tests names first_names) (placed_from (before ++ line ∷ []) lines)))) none
    ∙ lines_pass names first_names (before ++ line ∷ []) lines lawful parts.1 all

-- ---- the numbers that names have

-- numbers with the same names are the same
names_of-injective : (names : List (List ℕ)) (xs ys : List ℕ) → names_differ names ≡ true → are_below (length names) xs ≡ true → are_below (length names) ys ≡ true → names_of names xs ≡ names_of names ys → xs ≡ ys
names_of-injective names [] [] differ p q e = refl
names_of-injective names [] (y ∷ ys) differ p q e = absurd (cc)
names_of-injective names (x ∷ xs) [] differ p q e = absurd (cc)
names_of-injective names (x ∷ xs) (y ∷ ys) differ p q e =
    let below = and_parts (nat_lt x (length names)) (are_below (length names) xs) p in
    let under = and_parts (nat_lt y (length names)) (are_below (length names) ys) q in
    let name : get_or names x [] ≡ get_or names y [] = cc in
    let rest : names_of names xs ≡ names_of names ys = cc in
    let same : x ≡ y = eqb-true x y (sym (same_name names x y differ (ltb-true x (length names) below.0) (ltb-true y (length names) under.0)) ∙ (bytes_decides (get_or names x []) (get_or names y [])).1 name) in
    rw (same, names_of-injective names xs ys differ below.1 under.1 rest) refl

lists_injective : (names : List (List ℕ)) (xs ys : List (List ℕ)) → names_differ names ≡ true → list_all (are_below (length names)) xs ≡ true → list_all (are_below (length names)) ys ≡ true → map (names_of names) xs ≡ map (names_of names) ys → xs ≡ ys
lists_injective names [] [] differ p q e = refl
lists_injective names [] (y ∷ ys) differ p q e = absurd (cc)
lists_injective names (x ∷ xs) [] differ p q e = absurd (cc)
lists_injective names (x ∷ xs) (y ∷ ys) differ p q e =
    let below = and_parts (are_below (length names) x) (list_all (are_below (length names)) xs) p in
    let under = and_parts (are_below (length names) y) (list_all (are_below (length names)) ys) q in
    let first : names_of names x ≡ names_of names y = cc in
    let rest : map (names_of names) xs ≡ map (names_of names) ys = cc in
    rw (names_of-injective names x y differ below.0 under.0 first, lists_injective names xs ys differ below.1 under.1 rest) refl

-- no colour has no name, so the names of colours differ from that of none
none_differs : (names : List (List ℕ)) → list_all is_name names ≡ true → names_differ names ≡ true → names_differ ([] ∷ names) ≡ true
none_differs names lawful differ = and_from (not (list_any (pointwise nat_eq []) names)) (names_differ names) (not_from_false (list_any (pointwise nat_eq []) names) (other names lawful)) differ
  where
    other : (all : List (List ℕ)) → list_all is_name all ≡ true → list_any (pointwise nat_eq []) all ≡ false
    other [] h = refl
    other ([] ∷ all) h = absurd (cc)
    other ((byte ∷ bytes) ∷ all) h = other all (and_parts (is_name (byte ∷ bytes)) (list_all is_name all) h).1

-- ---- the text

-- the options, their colours and the names of these, as a problem has them
same_kept : (words : List (List ℕ)) (lines : List (List (List ℕ))) (problem : Problem) (ignored : ℕ) (kept : KeptOptions) → IsProblemIn words lines problem ignored → Stands problem.names (primary_in words) lines kept → kept ≡ record { options = problem.options; colours = problem.colours; colour_names = problem.colour_names; ignored = ignored }
same_kept words lines problem ignored kept h stands =
    let primary_same : take (primary_in words) problem.names ≡ primary_names words = ap (take (primary_in words)) h.names in
    let below : list_all (are_below (length problem.names)) problem.options ≡ true = list_all-from_AllPass (are_below (length problem.names)) problem.options h.lawful.each_named in
    let lawful : list_all is_name problem.colour_names ≡ true = list_all-from_AllPass is_name problem.colour_names h.lawful.each_colour_name in
    let next : length problem.colour_names + 1 ≡ length ([] ∷ problem.colour_names) = add-one (length problem.colour_names) in
    let numbers : list_all (are_below (length ([] ∷ problem.colour_names))) problem.colours ≡ true =
    rw (← next) (list_all-from_AllPass (are_below (length problem.colour_names + 1)) problem.colours h.lawful.each_colour) in
    let options : kept.options ≡ problem.options =
    lists_injective problem.names kept.options problem.options h.lawful.distinct_names (options_below (primary_in words) (length problem.names) kept.options stands.each) below
    (stands.options ∙ ap (λ pn. map (map item_part) (kept_lines pn lines)) primary_same ∙ sym h.options) in
    let colour_names : kept.colour_names ≡ problem.colour_names = stands.colour_names ∙ ap (λ pn. colours_in (kept_lines pn lines)) primary_same ∙ sym h.colour_names in
    let own : list_all (are_below (length ([] ∷ problem.colour_names))) kept.colours ≡ true = ap (λ (ns : List (List ℕ)). list_all (are_below (length ([] ∷ ns))) kept.colours) (sym colour_names) ∙ stands.numbers in
    let colours : kept.colours ≡ problem.colours =
    lists_injective ([] ∷ problem.colour_names) kept.colours problem.colours (none_differs problem.colour_names lawful h.lawful.distinct_colour_names) own numbers
    (ap (λ ns. map (names_of_colours ns) kept.colours) (sym colour_names) ∙ stands.colours ∙ ap (λ pn. map (map colour_part) (kept_lines pn lines)) primary_same ∙ sym h.colours) in
    let total : kept.ignored ≡ ignored = stands.total ∙ ap (λ pn. count_by (λ ws. not (names_primary pn ws)) lines) primary_same ∙ sym h.others in
    same_fields kept.options problem.options kept.colours problem.colours kept.colour_names problem.colour_names kept.ignored ignored options colours colour_names total
  where
    options_below : (primary n : ℕ) (options : List (List ℕ)) → list_all (is_option primary n) options ≡ true → list_all (are_below n) options ≡ true
    options_below primary n [] all = refl
    options_below primary n (items ∷ options) all =
        let parts = and_parts (is_option primary n items) (list_all (is_option primary n) options) all in
        and_from (are_below n items) (list_all (are_below n) options) (and_parts (are_below n items) (is_distinct items) (and_parts (some_below primary items) (are_below n items && is_distinct items) parts.0).1).0 (options_below primary n options parts.1)

    same_fields : (a b c d e f : List (List ℕ)) (n m : ℕ) → a ≡ b → c ≡ d → e ≡ f → n ≡ m → record { options = a; colours = c; colour_names = e; ignored = n } ≡ (let kept : KeptOptions = record { options = b; colours = d; colour_names = f; ignored = m } in kept)
    same_fields a b c d e f n m p q r s = rw (p, q, r, s) refl

problem_limits : (words : List (List ℕ)) (lines : List (List (List ℕ))) (problem : Problem) (ignored : ℕ) → IsProblemIn words lines problem ignored → KeepLimits (kept_lines (primary_names words) lines)
problem_limits words lines problem ignored h =
    let counts = keeps_counts problem.names problem.options (kept_lines (primary_names words) lines) h.options in
    record {
      count = omega (arith, counts.count, h.lawful.options);
      occurrences = omega (arith, counts.occurrences, h.lawful.occurrences);
      colours = omega (arith, ap length h.colour_names, h.lawful.colour_names);
    }

parts_whole : (line : ℕ) (words : List (List ℕ)) (others : List (ℕ × List (List ℕ))) (problem : Problem) (ignored : ℕ) → IsProblemIn words (words_in others) problem ignored → (items_from line [] false words ≡ Ok problem.names) × (options_from problem.names (primary_in words) none_kept others ≡ Ok (read_by problem ignored).kept)
parts_whole line words others problem ignored h =
    let names : problem.names ≡ names_in words = h.names in
    let primary = primary_in words in
    let primary_same : primary_names words ≡ take primary problem.names = ap (take primary) (sym h.names) in
    let lawful : list_all is_name problem.names ≡ true = list_all-from_AllPass is_name problem.names h.lawful.each_name in
    let passes : fault_of (options_from problem.names primary none_kept others) ≡ None =
    options_fault problem.names primary none_kept [] others h.lawful.distinct_names (none_stands problem.names primary)
    ∙ lines_pass problem.names (take primary problem.names) [] others lawful (rw (← primary_same) h.each_line) (rw (← primary_same) (problem_limits words (words_in others) problem ignored h)) in (
      items_whole line [] false words (rw (← names) lawful) (rw (← names) h.lawful.distinct_names) (rw (← names) h.lawful.names) (omega (arith, h.separator)) ∙ ap Ok (sym names),
      (elim (options_from problem.names primary none_kept others) as (λ r. options_from problem.names primary none_kept others ≡ r → fault_of r ≡ None → r ≡ Ok (read_by problem ignored).kept) [
        | Ok kept ↦ λ e none. ap Ok (same_kept words (words_in others) problem ignored kept h (options_stand problem.names primary [] others none_kept kept h.lawful.distinct_names (none_stands problem.names primary) e))
        | Err fault ↦ λ e none. absurd (cc)
      ]) refl passes,
    )

content_whole : (lines : List (ℕ × List (List ℕ))) (problem : Problem) (ignored : ℕ) → IsProblemIn (get_or lines 0 (0, [])).1 (words_in (drop 1 lines)) problem ignored → reading_of lines ≡ Ok (read_by problem ignored)
unfolding reading_of
content_whole [] problem ignored h = absurd (omega (arith, h.primary, h.lawful.some_primary))
content_whole (first ∷ others) problem ignored h =
    let parts = parts_whole first.0 first.1 others problem ignored h in
    rw (parts.0, parts.1, ← h.primary) refl

-- a text that has a problem is read as that problem
pub text_whole : (text : List ℕ) (problem : Problem) (ignored : ℕ) → IsProblemOf text problem ignored → reading_of (content_of text) ≡ Ok (read_by problem ignored)
text_whole text problem ignored h = content_whole (content_of text) problem ignored h
