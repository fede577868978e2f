-- The fault of the reading word by word is the first fault of the text.
use Rattle.std.proofs.Common.{◌≡◌, ℕ, ◌+◌, ◌≤◌, List, [], ◌∷◌, ◌++◌, length, Option, Some, None, Result, Ok, Err, Bool, true, false, refl, sym, ap, ◌∙◌, arith, append-nil, length-append, map, take, not, ◌==◌, ◌&&◌, ◌||◌, nat_lt, is_some, suc, get_or}
use Rattle.std.specs.List.{flat_map, list_any, sum_by}
use Rattle.std.proofs.lemmas.Bool.{le-ltb}
use Rattle.std.proofs.lemmas.List.{map-append}
use Rattle.std.proofs.lemmas.List.Elements.{filter-append}
use Rattle.std.proofs.lemmas.List.Folds.{list_any-append}
use Rattle.std.proofs.lemmas.List.Sums.{sum_by-cons, sum_by-append}
use Rattle.cover_problem.specs.Numbers.{is_in, are_below, some_below}
use Rattle.cover_problem.specs.Problem.{names_differ}
use Rattle.dlx_reader.specs.Content.{begins_with_bar, content_of}
use Rattle.dlx_reader.specs.Faults.{first_of, placed, part_tests, item_tests, option_tests, item_line_tests, limit_tests, tests_of, first_fault}
use Rattle.dlx_reader.specs.Items.{name_part, names_in, primary_in, primary_names}
use Rattle.dlx_reader.specs.Options.{KeptOptions}
use Rattle.dlx_reader.specs.Names.{is_among, item_named}
use Rattle.dlx_reader.specs.Occurrences.{has_colon, item_part, colour_part}
use Rattle.dlx_reader.specs.OptionLines.{names_of, names_primary, kept_lines, colours_in}
use Rattle.dlx_reader.specs.Reading.{◌>>=◌, Reading, after, add_name, item_at, items_from, known_item, option_item_at, option_from, colours_from, room_tests, more_kept, keep_at, option_at, options_from, none_kept, reading_of}
use Rattle.dlx_reader.specs.declared.fault.ReadFault.{ReadFault}
use Rattle.dlx_reader.specs.declared.fault.ReadFault.TheVariants as faults
use Rattle.dlx_reader.proofs.Colours.{different, colours_fault}
use Rattle.dlx_reader.proofs.ItemLines.{items_read, add_names}
use Rattle.dlx_reader.proofs.Naming.{named_at, is_some-named}
use Rattle.dlx_reader.proofs.OptionLines.{Stands, none_stands, line_stands, primary_by_items, kept_lines-push, kept_lines-other, colours_of_lines, words_in}
use Rattle.dlx_reader.proofs.OptionWords.{ReadsOption, item_last, word_read, option_read, same_item, are_below-push, names_of-push}
use Rattle.dlx_reader.proofs.Differing.{among_first}
use Rattle.dlx_reader.proofs.Placed.{or_first, first_of-append, fault_of, fault_of-after, fault_of-then, placed_from, placed_from-start, first_of-placed}

-- ---- the item line

names_in-append : (xs ys : List (List ℕ)) → names_in (xs ++ ys) ≡ names_in xs ++ names_in ys
names_in-append xs ys = rw (map-append name_part xs ys) (filter-append (λ name. not (length name == 0)) (map name_part xs) (map name_part ys))

pub names_in-push : (before : List (List ℕ)) (word : List ℕ) → add_name (names_in before) (name_part word) ≡ names_in (before ++ word ∷ [])
names_in-push before word = sym (append-nil (add_name (names_in before) (name_part word))) ∙ add_names (names_in before) [] (name_part word) ∙ sym (names_in-append before (word ∷ []))

any_bar-push : (before : List (List ℕ)) (word : List ℕ) → (list_any begins_with_bar before || begins_with_bar word) ≡ list_any begins_with_bar (before ++ word ∷ [])
any_bar-push before word = sym (list_any-append begins_with_bar before (word ∷ []) ∙ ap (λ b. list_any begins_with_bar before || b) (or_false (begins_with_bar word)))
  where
    or_false : (b : Bool) → (b || false) ≡ b
    or_false true = refl
    or_false false = refl

-- the tests of one word of the item line, after those before it
abbrev place_tests : ℕ → List (List ℕ) × List ℕ → List (Bool × ReadFault)
place_tests line place = item_tests line (names_in place.0) (list_any begins_with_bar place.0) place.1

items_fault : (line : ℕ) (names : List (List ℕ)) (divided : Bool) (before words : List (List ℕ)) → names ≡ names_in before → divided ≡ list_any begins_with_bar before → fault_of (items_from line names divided words) ≡ first_of (flat_map (place_tests line) (placed_from before words))
unfolding items_from item_at
items_fault line names divided before [] same bars = refl
items_fault line names divided before (word ∷ words) same bars =
    fault_of-then (item_tests line names divided word) (add_name names (name_part word), divided || begins_with_bar word) (λ state. items_from line state.0 state.1 words)
    ∙ rw (same, bars, names_in-push before word, any_bar-push before word, items_fault line (names_in (before ++ word ∷ [])) (list_any begins_with_bar (before ++ word ∷ [])) (before ++ word ∷ []) words refl refl) (sym (first_of-placed (place_tests line) before word words))

pub item_line_fault : (line : ℕ × List (List ℕ)) → fault_of (items_from line.0 [] false line.1) ≡ first_of (item_line_tests line)
item_line_fault line = items_fault line.0 [] false [] line.1 refl refl ∙ ap (λ places. first_of (flat_map (place_tests line.0) places)) (placed_from-start line.1)

-- ---- an option's line

-- the tests behind the parts of a word
abbrev last_tests : ℕ → List (List ℕ) → List (List ℕ) → List (List ℕ) → Bool → List ℕ → List (Bool × ReadFault)
last_tests line names primary before colon name =
    (not (is_among names name), faults.UnknownItem line) ∷ (is_among before name, faults.DuplicateInOption line) ∷ (colon && is_among primary name, faults.ColourOnPrimary line) ∷ []

known_fault : (line : ℕ) (names : List (List ℕ)) (primary : ℕ) (items : List ℕ) (colon : Bool) (name : List ℕ) (found : Option ℕ) → is_some found ≡ is_among names name → ((item : ℕ) → found ≡ Some item → (is_in items item ≡ is_among (names_of names items) name) × (nat_lt item primary ≡ is_among (take primary names) name)) → fault_of (known_item line found >>= (λ item. after (item_last line colon primary items item) (items ++ item ∷ []))) ≡ first_of (last_tests line names (take primary names) (names_of names items) colon name)
known_fault line names primary items colon name None among same = rw (← among) refl
known_fault line names primary items colon name (Some item) among same =
    let both = same item refl in
    rw (← among, fault_of-after (item_last line colon primary items item) (items ++ item ∷ []), both.0, both.1) refl

word_fault : (line : ℕ) (names : List (List ℕ)) (primary : ℕ) (items : List ℕ) (before : List (List ℕ)) (word : List ℕ) → names_differ names ≡ true → are_below (length names) items ≡ true → names_of names items ≡ map item_part before → fault_of (option_item_at line names primary items word) ≡ first_of (option_tests line names (take primary names) before word)
unfolding option_item_at
word_fault line names primary items before word differ below same =
    let tests = part_tests line (has_colon word) (item_part word) (colour_part word) in
    fault_of-then tests (item_part word) (λ name. known_item line (item_named names name) >>= (λ item. after (item_last line (has_colon word) primary items item) (items ++ item ∷ [])))
    ∙ ap (or_first (first_of tests)) (known_fault line names primary items (has_colon word) (item_part word) (item_named names (item_part word)) (is_some-named names (item_part word)) (λ item named.
    let at = named_at names (item_part word) item named in (
      sym (same_item names items item differ below at.0) ∙ ap (is_among (names_of names items)) at.1,
      sym (among_first names primary item differ at.0) ∙ ap (is_among (take primary names)) at.1,
    )))
    ∙ ap (λ own. or_first (first_of tests) (first_of (last_tests line names (take primary names) own (has_colon word) (item_part word)))) same
    ∙ sym (first_of-append tests (last_tests line names (take primary names) (map item_part before) (has_colon word) (item_part word)))

-- the tests of a word of an option, after those before it
abbrev pub word_tests : ℕ → List (List ℕ) → List (List ℕ) → List (List ℕ) × List ℕ → List (Bool × ReadFault)
word_tests line names primary place = option_tests line names primary place.0 place.1

option_fault : (line : ℕ) (names : List (List ℕ)) (primary : ℕ) (items : List ℕ) (before words : List (List ℕ)) → names_differ names ≡ true → are_below (length names) items ≡ true → names_of names items ≡ map item_part before → fault_of (option_from line names primary items words) ≡ first_of (flat_map (word_tests line names (take primary names)) (placed_from before words))
unfolding option_from
option_fault line names primary items before [] differ below same = refl
option_fault line names primary items before (word ∷ words) differ below same =
    (elim (option_item_at line names primary items word) as (λ r. option_item_at line names primary items word ≡ r → fault_of (r >>= (λ more. option_from line names primary more words)) ≡ or_first (fault_of r) (first_of (flat_map (word_tests line names (take primary names)) (placed_from (before ++ word ∷ []) words)))) [
      | Ok more ↦ λ e.
          let one = word_read line names primary items word more e in
          let at = named_at names (item_part word) one.item one.named in
          let further : names_of names more ≡ map item_part (before ++ word ∷ []) =
          names_of-push names items more one.item (item_part word) one.whole at.1 ∙ ap (λ front. front ++ item_part word ∷ []) same ∙ sym (map-append item_part before (word ∷ [])) in
          option_fault line names primary more (before ++ word ∷ []) words differ (rw one.whole (are_below-push (length names) items one.item below at.0)) further
      | Err fault ↦ λ e. refl
    ]) refl
    ∙ ap (λ found. or_first found (first_of (flat_map (word_tests line names (take primary names)) (placed_from (before ++ word ∷ []) words)))) (word_fault line names primary items before word differ below same)
    ∙ sym (first_of-placed (word_tests line names (take primary names)) before word words)

pub option_words_fault : (line : ℕ) (names : List (List ℕ)) (primary : ℕ) (words : List (List ℕ)) → names_differ names ≡ true → fault_of (option_from line names primary [] words) ≡ first_of (flat_map (word_tests line names (take primary names)) (placed words))
option_words_fault line names primary words differ =
    option_fault line names primary [] [] words differ refl refl ∙ ap (λ places. first_of (flat_map (word_tests line names (take primary names)) places)) (placed_from-start words)

-- ---- the limits

length-map_each : {X Y : Type 0} (f : X → Y) (xs : List X) → length (map f xs) ≡ length xs
length-map_each f [] = refl
length-map_each f (x ∷ xs) = ap suc (length-map_each f xs)

sum-map_each : {X Y : Type 0} (f : X → Y) (lists : List (List X)) → sum_by length (map (map f) lists) ≡ sum_by length lists
sum-map_each f [] = refl
sum-map_each f (xs ∷ lists) =
    sum_by-cons length (map f xs) (map (map f) lists) ∙ rw (length-map_each f xs, sum-map_each f lists) (sym (sum_by-cons length xs lists))

-- as many options are kept as lines, with as many items as these have words
pub record KeepsCounts (options : List (List ℕ)) (lines : List (List (List ℕ))) : Type 0 where
  pub count : length lines ≡ length options
  pub occurrences : sum_by length lines ≡ sum_by length options

pub keeps_counts : (names options : List (List ℕ)) (lines : List (List (List ℕ))) → map (names_of names) options ≡ map (map item_part) lines → KeepsCounts options lines
keeps_counts names options lines same = record {
  count = sym (length-map_each (map item_part) lines) ∙ ap length (sym same) ∙ length-map_each (names_of names) options;
  occurrences = sym (sum-map_each item_part lines) ∙ ap (sum_by length) (sym same) ∙ sum-map_each (λ item. get_or names item []) options;
}

-- the limits, by three numbers
abbrev limits_by : ℕ → ℕ → ℕ → ℕ → List (Bool × ReadFault)
limits_by line options nodes colours = (nat_lt 20000 options, faults.TooManyOptions line) ∷ (nat_lt 200000 nodes, faults.TooManyNodes line) ∷ (nat_lt 10000 colours, faults.TooManyColours line) ∷ []

same_limits : (line a b c d e f : ℕ) → a ≡ b → c ≡ d → e ≡ f → first_of (limits_by line a c e) ≡ first_of (limits_by line b d f)
same_limits line a b c d e f p q r = rw (p, q, r) refl

within_limits : (line a b c : ℕ) → a ≤ 20000 → b ≤ 200000 → c ≤ 10000 → None ≡ first_of (limits_by line a b c)
within_limits line a b c p q r = rw (le-ltb 20000 a p, le-ltb 200000 b q, le-ltb 10000 c r) refl

last_fault : {A B : Type 0} (r : Result A ReadFault) (f : A → B) → fault_of (r >>= (λ x. Ok (f x))) ≡ fault_of r
last_fault (Ok x) f = refl
last_fault (Err fault) f = refl

kept_fault : (line primary : ℕ) (names : List (List ℕ)) (lines : List (List (List ℕ))) (kept : KeptOptions) (items : List ℕ) (words : List (List ℕ)) → Stands names primary lines kept → ReadsOption names primary [] words items → some_below primary items ≡ true → names_primary (take primary names) words ≡ true → fault_of (keep_at line primary kept items words) ≡ first_of (limit_tests line (kept_lines (take primary names) (lines ++ words ∷ [])))
unfolding keep_at
kept_fault line primary names lines kept items words stands read some is =
    let whole = kept_lines (take primary names) lines in
    let tests = room_tests line kept.options items in
    let before = flat_map (map colour_part) whole in
    let colours : List (Bool × ReadFault) = (nat_lt 10000 (length (different (before ++ map colour_part words))), faults.TooManyColours line) ∷ [] in
    let further : kept_lines (take primary names) (lines ++ words ∷ []) ≡ whole ++ words ∷ [] = kept_lines-push (take primary names) lines words true is in
    let counts = keeps_counts names kept.options whole stands.options in
    let long : length words ≡ length items = sym (length-map_each item_part words) ∙ ap length (sym read.whole) ∙ length-map_each (λ item. get_or names item []) items in
    rw some
    (fault_of-then tests items (λ own. colours_from line kept.colour_names [] (map colour_part words) >>= (λ state. Ok (more_kept kept own state)))
    ∙ ap (or_first (first_of tests)) (last_fault (colours_from line kept.colour_names [] (map colour_part words)) (λ state. more_kept kept items state) ∙ colours_fault line kept.colour_names [] before (map colour_part words) stands.colour_names stands.room)
    ∙ sym (first_of-append tests colours)
    ∙ same_limits line (length kept.options + 1) (length (whole ++ words ∷ [])) (sum_by length kept.options + length items) (sum_by length (whole ++ words ∷ [])) (length (different (before ++ map colour_part words))) (length (colours_in (whole ++ words ∷ [])))
    (omega (arith, counts.count, length-append whole (words ∷ [])))
    (omega (arith, counts.occurrences, long, sum_by-append length whole (words ∷ []), sum_by-cons length words []))
    (ap (λ cs. length (different cs)) (sym (colours_of_lines whole words)))
    ∙ ap (λ all. first_of (limit_tests line all)) (sym further))

ignored_fault : (line primary : ℕ) (names : List (List ℕ)) (lines : List (List (List ℕ))) (kept : KeptOptions) (items : List ℕ) (words : List (List ℕ)) → Stands names primary lines kept → some_below primary items ≡ false → names_primary (take primary names) words ≡ false → fault_of (keep_at line primary kept items words) ≡ first_of (limit_tests line (kept_lines (take primary names) (lines ++ words ∷ [])))
unfolding keep_at
ignored_fault line primary names lines kept items words stands none is =
    let whole = kept_lines (take primary names) lines in
    let counts = keeps_counts names kept.options whole stands.options in
    rw none
    (within_limits line (length whole) (sum_by length whole) (length (colours_in whole)) (omega (arith, counts.count, stands.count)) (omega (arith, counts.occurrences, stands.occurrences)) (omega (arith, ap length stands.colour_names, stands.room))
    ∙ ap (λ all. first_of (limit_tests line all)) (sym (kept_lines-other (take primary names) lines words is)))

keep_fault : (line primary : ℕ) (names : List (List ℕ)) (lines : List (List (List ℕ))) (kept : KeptOptions) (items : List ℕ) (words : List (List ℕ)) → names_differ names ≡ true → Stands names primary lines kept → ReadsOption names primary [] words items → fault_of (keep_at line primary kept items words) ≡ first_of (limit_tests line (kept_lines (take primary names) (lines ++ words ∷ [])))
keep_fault line primary names lines kept items words differ stands read =
    let is = primary_by_items names primary words items differ read in
    (elim (some_below primary items) as (λ b. some_below primary items ≡ b → fault_of (keep_at line primary kept items words) ≡ first_of (limit_tests line (kept_lines (take primary names) (lines ++ words ∷ [])))) [
      | true ↦ λ some. kept_fault line primary names lines kept items words stands read some (is ∙ some)
      | false ↦ λ none. ignored_fault line primary names lines kept items words stands none (is ∙ none)
    ]) refl

-- ---- the lines of options

-- the tests of an option's line, after those before it
abbrev pub line_tests : List (List ℕ) → List (List ℕ) → List (ℕ × List (List ℕ)) × (ℕ × List (List ℕ)) → List (Bool × ReadFault)
line_tests names primary place = flat_map (word_tests place.1.0 names primary) (placed place.1.1) ++ limit_tests place.1.0 (kept_lines primary (map (λ l. l.1) (place.0 ++ place.1 ∷ [])))

pub words_in-push : (before : List (ℕ × List (List ℕ))) (line : ℕ × List (List ℕ)) → words_in (before ++ line ∷ []) ≡ words_in before ++ line.1 ∷ []
words_in-push before line = map-append (λ (l : ℕ × List (List ℕ)). l.1) before (line ∷ [])

line_fault : (names : List (List ℕ)) (primary : ℕ) (kept : KeptOptions) (before : List (ℕ × List (List ℕ))) (line : ℕ × List (List ℕ)) → names_differ names ≡ true → Stands names primary (words_in before) kept → fault_of (option_at names primary kept line) ≡ first_of (line_tests names (take primary names) (before, line))
unfolding option_at
line_fault names primary kept before line differ stands =
    let limits = limit_tests line.0 (kept_lines (take primary names) (words_in (before ++ line ∷ []))) in
    (elim (option_from line.0 names primary [] line.1) as (λ r. option_from line.0 names primary [] line.1 ≡ r → fault_of (r >>= (λ items. keep_at line.0 primary kept items line.1)) ≡ or_first (fault_of r) (first_of limits)) [
      | Ok items ↦ λ e.
          keep_fault line.0 primary names (words_in before) kept items line.1 differ stands (option_read line.0 names primary [] line.1 items e)
          ∙ ap (λ lines. first_of (limit_tests line.0 (kept_lines (take primary names) lines))) (sym (words_in-push before line))
      | Err fault ↦ λ e. refl
    ]) refl
    ∙ ap (λ found. or_first found (first_of limits)) (option_words_fault line.0 names primary line.1 differ)
    ∙ sym (first_of-append (flat_map (word_tests line.0 names (take primary names)) (placed line.1)) limits)

pub options_fault : (names : List (List ℕ)) (primary : ℕ) (kept : KeptOptions) (before lines : List (ℕ × List (List ℕ))) → names_differ names ≡ true → Stands names primary (words_in before) kept → fault_of (options_from names primary kept lines) ≡ first_of (flat_map (line_tests names (take primary names)) (placed_from before lines))
unfolding options_from
options_fault names primary kept before [] differ stands = refl
options_fault names primary kept before (line ∷ lines) differ stands =
    (elim (option_at names primary kept line) as (λ r. option_at names primary kept line ≡ r → fault_of (r >>= (λ more. options_from names primary more lines)) ≡ or_first (fault_of r) (first_of (flat_map (line_tests names (take primary names)) (placed_from (before ++ line ∷ []) lines)))) [
      | Ok more ↦ λ e.
          options_fault names primary more (before ++ line ∷ []) lines differ (rw (words_in-push before line) (line_stands names primary (words_in before) line kept more differ stands e))
      | Err fault ↦ λ e. refl
    ]) refl
    ∙ ap (λ found. or_first found (first_of (flat_map (line_tests names (take primary names)) (placed_from (before ++ line ∷ []) lines)))) (line_fault names primary kept before line differ stands)
    ∙ sym (first_of-placed (line_tests names (take primary names)) before line lines)

-- ---- the text

content_fault : (lines : List (ℕ × List (List ℕ))) → fault_of (reading_of lines) ≡ first_of (tests_of lines)
unfolding reading_of
content_fault [] = refl
content_fault (first ∷ others) =
    let primary = primary_in first.1 in
    let made : List (List ℕ) → KeptOptions → Reading = λ names kept. record { names = names; primary = primary; kept = kept } in
    (elim (items_from first.0 [] false first.1) as (λ r. items_from first.0 [] false first.1 ≡ r → fault_of (r >>= (λ names. options_from names primary none_kept others >>= (λ kept. Ok (made names kept)))) ≡ or_first (fault_of r) (first_of (flat_map (line_tests (names_in first.1) (primary_names first.1)) (placed others)))) [
      | Ok names ↦ λ e.
          let read = items_read first.0 [] false first.1 names e in
          last_fault (options_from names primary none_kept others) (made names)
          ∙ options_fault names primary none_kept [] others (read.differ refl) (none_stands names primary)
          ∙ ap (λ places. first_of (flat_map (line_tests names (take primary names)) places)) (placed_from-start others)
          ∙ named names read.whole
      | Err fault ↦ λ e. refl
    ]) refl
    ∙ ap (λ found. or_first found (first_of (flat_map (line_tests (names_in first.1) (primary_names first.1)) (placed others)))) (item_line_fault first)
    ∙ sym (first_of-append (item_line_tests first) (flat_map (line_tests (names_in first.1) (primary_names first.1)) (placed others)))
  where
    named : (names : List (List ℕ)) → names ≡ names_in first.1 → first_of (flat_map (line_tests names (take (primary_in first.1) names)) (placed others)) ≡ first_of (flat_map (line_tests (names_in first.1) (primary_names first.1)) (placed others))
    named names e = rw e refl

-- the fault of reading a text is its first fault
pub text_fault : (text : List ℕ) → fault_of (reading_of (content_of text)) ≡ first_fault text
text_fault text = content_fault (content_of text)
