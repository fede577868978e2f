-- What the lines of options give.
use Rattle.std.proofs.Common.{◌≡◌, ℕ, ◌+◌, ◌≤◌, List, [], ◌∷◌, ◌++◌, length, Ok, Err, Bool, true, false, not, ◌&&◌, ◌||◌, ◌==◌, cond, refl, sym, ap, ◌∙◌, arith, append_assoc, append-nil, length-append, map, take, count_by}
use Rattle.std.specs.List.{list_all, list_any, sum_by, flat_map}
use Rattle.std.proofs.lemmas.Bool.{and_parts, and_from, ltb-false}
use Rattle.std.proofs.lemmas.Grind.{flat_map-append}
use Rattle.std.proofs.lemmas.List.{map-append}
use Rattle.std.proofs.lemmas.List.Elements.{filter-append}
use Rattle.std.proofs.lemmas.List.Folds.{list_all-append}
use Rattle.std.proofs.lemmas.List.Sums.{sum_by-cons, sum_by-append}
use Rattle.cover_problem.specs.Numbers.{is_distinct, are_below, some_below}
use Rattle.cover_problem.specs.Problem.{is_name, names_differ}
use Rattle.dlx_reader.specs.Content.{is_word}
use Rattle.dlx_reader.specs.Options.{KeptOptions}
use Rattle.dlx_reader.specs.Names.{is_among}
use Rattle.dlx_reader.specs.Occurrences.{has_colon, item_part, colour_part}
use Rattle.dlx_reader.specs.OptionLines.{names_of, names_primary, is_occurrence, is_option_line, kept_lines, colours_in, names_of_colours}
use Rattle.dlx_reader.specs.Reading.{◌>>=◌, after, option_from, colours_from, room_tests, more_kept, more_ignored, keep_at, option_at, options_from, none_kept}
use Rattle.dlx_reader.proofs.Colours.{different, colours_read, names_of-more, are_below-more, is_lawful_colour}
use Rattle.dlx_reader.proofs.Firsts.{after_ok}
use Rattle.dlx_reader.proofs.OptionWords.{ReadsOption, option_read, same_primary}
use Rattle.dlx_reader.proofs.Parts.{no_colon}

-- whether the items are those of an option: some primary, each with a name, none twice
abbrev pub is_option : ℕ → ℕ → List ℕ → Bool
is_option primary n items = some_below primary items && (are_below n items && is_distinct items)

-- the words of lines
abbrev pub words_in : List (ℕ × List (List ℕ)) → List (List (List ℕ))
words_in lines = map (λ line. line.1) lines

-- what is kept, where these lines of options are read
pub record Stands (names : List (List ℕ)) (primary : ℕ) (lines : List (List (List ℕ))) (kept : KeptOptions) : Type 0 where
  pub options : map (names_of names) kept.options ≡ map (map item_part) (kept_lines (take primary names) lines)
  pub colours : map (names_of_colours kept.colour_names) kept.colours ≡ map (map colour_part) (kept_lines (take primary names) lines)
  pub colour_names : kept.colour_names ≡ colours_in (kept_lines (take primary names) lines)
  pub total : kept.ignored ≡ count_by (λ words. not (names_primary (take primary names) words)) lines
  pub each : list_all (is_option primary (length names)) kept.options ≡ true
  pub numbers : list_all (are_below (length ([] ∷ kept.colour_names))) kept.colours ≡ true
  pub differ : names_differ kept.colour_names ≡ true
  pub count : length kept.options ≤ 20000
  pub occurrences : sum_by length kept.options ≤ 200000
  pub room : length kept.colour_names ≤ 10000
  pub lawful : list_all (list_all is_word) lines ≡ true → list_all (is_option_line names (take primary names)) lines ≡ true
  pub named : list_all (list_all is_word) lines ≡ true → list_all is_name kept.colour_names ≡ true

pub none_stands : (names : List (List ℕ)) (primary : ℕ) → Stands names primary [] none_kept
none_stands names primary = record {
  options = refl;
  colours = refl;
  colour_names = refl;
  total = refl;
  each = refl;
  numbers = refl;
  differ = refl;
  count = omega arith;
  occurrences = omega arith;
  room = omega arith;
  lawful = λ each. refl;
  named = λ each. refl;
}

-- ---- the lines that are kept

pub kept_lines-push : (names : List (List ℕ)) (lines : List (List (List ℕ))) (words : List (List ℕ)) (b : Bool) → names_primary names words ≡ b → kept_lines names (lines ++ words ∷ []) ≡ kept_lines names lines ++ cond b (words ∷ []) []
kept_lines-push names lines words b is = filter-append (names_primary names) lines (words ∷ []) ∙ ap (λ c. kept_lines names lines ++ cond c (words ∷ []) []) is

pub kept_lines-other : (names : List (List ℕ)) (lines : List (List (List ℕ))) (words : List (List ℕ)) → names_primary names words ≡ false → kept_lines names (lines ++ words ∷ []) ≡ kept_lines names lines
kept_lines-other names lines words is = kept_lines-push names lines words false is ∙ append-nil (kept_lines names lines)

counted : (names : List (List ℕ)) (lines : List (List (List ℕ))) (words : List (List ℕ)) → count_by (λ ws. not (names_primary names ws)) (lines ++ words ∷ []) ≡ count_by (λ ws. not (names_primary names ws)) lines + cond (not (names_primary names words)) 1 0
counted names lines words =
    let test : List (List ℕ) → ℕ = λ ws. cond (not (names_primary names ws)) 1 0 in
    omega (arith, sum_by-append (λ ws. cond (not (names_primary names ws)) 1 0) lines (words ∷ []), sum_by-cons (λ ws. cond (not (names_primary names ws)) 1 0) words [])

-- the colours of the lines, and those of one more
pub colours_of_lines : (lines : List (List (List ℕ))) (words : List (List ℕ)) → flat_map (map colour_part) (lines ++ words ∷ []) ≡ flat_map (map colour_part) lines ++ map colour_part words
colours_of_lines lines words = flat_map-append (map colour_part) lines (words ∷ []) ∙ ap (λ more. flat_map (map colour_part) lines ++ more) (append-nil (map colour_part words))

-- ---- one option

-- what a line leaves where its option is kept
pub record KeepsOption (line primary : ℕ) (kept : KeptOptions) (items : List ℕ) (words : List (List ℕ)) (more : KeptOptions) : Type 0 where
  pub state : List (List ℕ) × List ℕ
  pub numbered : colours_from line kept.colour_names [] (map colour_part words) ≡ Ok state
  pub whole : more ≡ more_kept kept items state
  pub count : length (kept.options ++ items ∷ []) ≤ 20000
  pub occurrences : sum_by length (kept.options ++ items ∷ []) ≤ 200000

pub keep_read : (line primary : ℕ) (kept : KeptOptions) (items : List ℕ) (words : List (List ℕ)) (more : KeptOptions) → some_below primary items ≡ true → keep_at line primary kept items words ≡ Ok more → KeepsOption line primary kept items words more
unfolding keep_at
keep_read line primary kept items words more some h =
    let tests = room_tests line kept.options items in
    let kept_at : (after tests items >>= (λ own. colours_from line kept.colour_names [] (map colour_part words) >>= (λ colours. Ok (more_kept kept own colours)))) ≡ Ok more = rw some at h in
    (elim (after tests items) as (λ r. after tests items ≡ r → (r >>= (λ own. colours_from line kept.colour_names [] (map colour_part words) >>= (λ colours. Ok (more_kept kept own colours)))) ≡ Ok more → KeepsOption line primary kept items words more) [
      | Ok own ↦ λ e g.
          let two = after_ok tests items own e in
          (elim (colours_from line kept.colour_names [] (map colour_part words)) as (λ r. colours_from line kept.colour_names [] (map colour_part words) ≡ r → (r >>= (λ colours. Ok (more_kept kept own colours))) ≡ Ok more → KeepsOption line primary kept items words more) [
            | Ok state ↦ λ numbered whole.
                let made : more_kept kept own state ≡ more = cc in
                record {
                  state = state;
                  numbered = numbered;
                  whole = sym made ∙ ap (λ (is : List ℕ). more_kept kept is state) (sym two.0);
                  count = omega (arith, length-append kept.options (items ∷ []), ltb-false 20000 (length kept.options + 1) two.1.0);
                  occurrences = omega (arith, sum_by-append length kept.options (items ∷ []), sum_by-cons length items [], ltb-false 200000 (sum_by length kept.options + length items) two.1.1.0);
                }
            | Err fault ↦ λ numbered whole. absurd (cc)
          ]) refl g
      | Err fault ↦ λ e g. absurd (cc)
    ]) refl kept_at

skip_read : (line primary : ℕ) (kept : KeptOptions) (items : List ℕ) (words : List (List ℕ)) (more : KeptOptions) → some_below primary items ≡ false → keep_at line primary kept items words ≡ Ok more → more_ignored kept ≡ more
unfolding keep_at
skip_read line primary kept items words more none h = let same : Ok (more_ignored kept) ≡ Ok more = rw none at h in cc

-- ---- one line

lawful_colours : (names primary_names words : List (List ℕ)) → list_all (is_occurrence names primary_names) words ≡ true → list_all is_lawful_colour (map colour_part words) ≡ true
lawful_colours names primary_names [] h = refl
lawful_colours names primary_names (word ∷ words) h =
    let parts = and_parts (is_occurrence names primary_names word) (list_all (is_occurrence names primary_names) words) h in
    let coloured = and_parts (is_among names (item_part word)) (not (has_colon word) || (is_name (colour_part word) && not (is_among primary_names (item_part word)))) parts.0 in
    and_from (is_lawful_colour (colour_part word)) (list_all is_lawful_colour (map colour_part words))
    ((elim (has_colon word) as (λ b. has_colon word ≡ b → (not b || (is_name (colour_part word) && not (is_among primary_names (item_part word)))) ≡ true → is_lawful_colour (colour_part word) ≡ true) [
      | true ↦ λ colon g. rw (and_parts (is_name (colour_part word)) (not (is_among primary_names (item_part word))) g).0 (or_true (length (colour_part word) == 0))
      | false ↦ λ none g. ap is_lawful_colour (no_colon word none).1
    ]) refl coloured.1)
    (lawful_colours names primary_names words parts.1)
  where
    or_true : (b : Bool) → (b || true) ≡ true
    or_true true = refl
    or_true false = refl

all_below-more : (low high : ℕ) (lists : List (List ℕ)) → low ≤ high → list_all (are_below low) lists ≡ true → list_all (are_below high) lists ≡ true
all_below-more low high [] le below = refl
all_below-more low high (ns ∷ lists) le below =
    let parts = and_parts (are_below low ns) (list_all (are_below low) lists) below in
    and_from (are_below high ns) (list_all (are_below high) lists) (are_below-more low high ns le parts.0) (all_below-more low high lists le parts.1)

all_named-more : (names more : List (List ℕ)) (lists : List (List ℕ)) → list_all (are_below (length names)) lists ≡ true → map (names_of (names ++ more)) lists ≡ map (names_of names) lists
all_named-more names more [] below = refl
all_named-more names more (ns ∷ lists) below =
    let parts = and_parts (are_below (length names) ns) (list_all (are_below (length names)) lists) below in
    rw (names_of-more names more ns parts.0, all_named-more names more lists parts.1) refl

push_all : {X : Type 0} (p : X → Bool) (xs : List X) (x : X) → list_all p xs ≡ true → p x ≡ true → list_all p (xs ++ x ∷ []) ≡ true
push_all p xs x all one = list_all-append p xs (x ∷ []) ∙ and_from (list_all p xs) (p x && true) all (and_from (p x) true one refl)

-- the words of a line that is read are an option's
line_lawful : (names : List (List ℕ)) (primary : ℕ) (words : List (List ℕ)) (items : List ℕ) → names_differ names ≡ true → ReadsOption names primary [] words items → list_all is_word words ≡ true → is_option_line names (take primary names) words ≡ true
line_lawful names primary words items differ read each =
    and_from (list_all (is_occurrence names (take primary names)) words) (names_differ (map item_part words)) (read.occur differ each) (ap names_differ (sym read.whole) ∙ read.differ differ refl refl)

-- a line whose option is kept
kept_stands : (line : ℕ) (names : List (List ℕ)) (primary : ℕ) (lines : List (List (List ℕ))) (words : List (List ℕ)) (items : List ℕ) (kept more : KeptOptions) → names_differ names ≡ true → Stands names primary lines kept → ReadsOption names primary [] words items → some_below primary items ≡ true → names_primary (take primary names) words ≡ true → KeepsOption line primary kept items words more → Stands names primary (lines ++ words ∷ []) more
kept_stands line names primary lines words items kept more differ stands read some is keeps =
    let numbers = colours_read line kept.colour_names [] (map colour_part words) keeps.state keeps.numbered in
    let further : kept_lines (take primary names) (lines ++ words ∷ []) ≡ kept_lines (take primary names) lines ++ words ∷ [] = kept_lines-push (take primary names) lines words true is in
    let grown : [] ∷ keeps.state.0 ≡ ([] ∷ kept.colour_names) ++ numbers.grows.more = ap (λ ns. [] ∷ ns) numbers.grows.whole in
    let longer : length ([] ∷ kept.colour_names) ≤ length ([] ∷ keeps.state.0) = omega (arith, ap length numbers.grows.whole, length-append kept.colour_names numbers.grows.more) in
    let earlier : map (names_of_colours keeps.state.0) kept.colours ≡ map (names_of_colours kept.colour_names) kept.colours = ap (λ ns. map (names_of ns) kept.colours) grown ∙ all_named-more ([] ∷ kept.colour_names) numbers.grows.more kept.colours stands.numbers in
    rw keeps.whole (record {
      options =
          map-append (names_of names) kept.options (items ∷ [])
          ∙ rw (stands.options, read.whole) (sym (ap (map (map item_part)) further ∙ map-append (map item_part) (kept_lines (take primary names) lines) (words ∷ [])));
      colours =
          map-append (names_of_colours keeps.state.0) kept.colours (keeps.state.1 ∷ [])
          ∙ rw (earlier, stands.colours, numbers.named refl) (sym (ap (map (map colour_part)) further ∙ map-append (map colour_part) (kept_lines (take primary names) lines) (words ∷ [])));
      colour_names =
          numbers.seen (flat_map (map colour_part) (kept_lines (take primary names) lines)) stands.colour_names
          ∙ ap different (sym (colours_of_lines (kept_lines (take primary names) lines) words))
          ∙ ap colours_in (sym further);
      total = omega (arith, stands.total, counted (take primary names) lines words, ap {B = ℕ} (λ b. cond (not b) 1 0) is);
      each =
          push_all (is_option primary (length names)) kept.options items stands.each
          (and_from (some_below primary items) (are_below (length names) items && is_distinct items) some (and_from (are_below (length names) items) (is_distinct items) (read.below refl) (read.distinct refl)));
      numbers =
          push_all (are_below (length ([] ∷ keeps.state.0))) kept.colours keeps.state.1
          (all_below-more (length ([] ∷ kept.colour_names)) (length ([] ∷ keeps.state.0)) kept.colours longer stands.numbers) (numbers.below refl);
      differ = numbers.differ stands.differ;
      count = keeps.count;
      occurrences = keeps.occurrences;
      room = numbers.room stands.room;
      lawful = λ each.
          let parts = and_parts (list_all (list_all is_word) lines) (list_all is_word words && true) (sym (list_all-append (list_all is_word) lines (words ∷ [])) ∙ each) in
          push_all (is_option_line names (take primary names)) lines words (stands.lawful parts.0) (line_lawful names primary words items differ read (and_parts (list_all is_word words) true parts.1).0);
      named = λ each.
          let parts = and_parts (list_all (list_all is_word) lines) (list_all is_word words && true) (sym (list_all-append (list_all is_word) lines (words ∷ [])) ∙ each) in
          let occur = read.occur differ (and_parts (list_all is_word words) true parts.1).0 in
          numbers.lawful (lawful_colours names (take primary names) words occur) (stands.named parts.0);
    })

-- a line whose option is ignored
ignored_stands : (names : List (List ℕ)) (primary : ℕ) (lines : List (List (List ℕ))) (words : List (List ℕ)) (items : List ℕ) (kept : KeptOptions) → names_differ names ≡ true → Stands names primary lines kept → ReadsOption names primary [] words items → names_primary (take primary names) words ≡ false → Stands names primary (lines ++ words ∷ []) (more_ignored kept)
ignored_stands names primary lines words items kept differ stands read is =
    let same : kept_lines (take primary names) (lines ++ words ∷ []) ≡ kept_lines (take primary names) lines = kept_lines-other (take primary names) lines words is in
    record {
      options = stands.options ∙ ap (map (map item_part)) (sym same);
      colours = stands.colours ∙ ap (map (map colour_part)) (sym same);
      colour_names = stands.colour_names ∙ ap colours_in (sym same);
      total = omega (arith, stands.total, counted (take primary names) lines words, ap {B = ℕ} (λ b. cond (not b) 1 0) is);
      each = stands.each;
      numbers = stands.numbers;
      differ = stands.differ;
      count = stands.count;
      occurrences = stands.occurrences;
      room = stands.room;
      lawful = λ each.
          let parts = and_parts (list_all (list_all is_word) lines) (list_all is_word words && true) (sym (list_all-append (list_all is_word) lines (words ∷ [])) ∙ each) in
          push_all (is_option_line names (take primary names)) lines words (stands.lawful parts.0) (line_lawful names primary words items differ read (and_parts (list_all is_word words) true parts.1).0);
      named = λ each. stands.named (and_parts (list_all (list_all is_word) lines) (list_all is_word words && true) (sym (list_all-append (list_all is_word) lines (words ∷ [])) ∙ each)).0;
    }

-- whether an option's line names a primary item, by its words and by its items
pub primary_by_items : (names : List (List ℕ)) (primary : ℕ) (words : List (List ℕ)) (items : List ℕ) → names_differ names ≡ true → ReadsOption names primary [] words items → names_primary (take primary names) words ≡ some_below primary items
primary_by_items names primary words items differ read = ap (list_any (is_among (take primary names))) (sym read.whole) ∙ same_primary names primary items differ (read.below refl)

pub line_stands : (names : List (List ℕ)) (primary : ℕ) (lines : List (List (List ℕ))) (line : ℕ × List (List ℕ)) (kept more : KeptOptions) → names_differ names ≡ true → Stands names primary lines kept → option_at names primary kept line ≡ Ok more → Stands names primary (lines ++ line.1 ∷ []) more
unfolding option_at
line_stands names primary lines line kept more differ stands h =
    (elim (option_from line.0 names primary [] line.1) as (λ r. option_from line.0 names primary [] line.1 ≡ r → (r >>= (λ items. keep_at line.0 primary kept items line.1)) ≡ Ok more → Stands names primary (lines ++ line.1 ∷ []) more) [
      | Ok items ↦ λ e g.
          let read = option_read line.0 names primary [] line.1 items e in
          let is = primary_by_items names primary line.1 items differ read in
          (elim (some_below primary items) as (λ b. some_below primary items ≡ b → Stands names primary (lines ++ line.1 ∷ []) more) [
            | true ↦ λ some. kept_stands line.0 names primary lines line.1 items kept more differ stands read some (is ∙ some) (keep_read line.0 primary kept items line.1 more some g)
            | false ↦ λ none. rw (← skip_read line.0 primary kept items line.1 more none g) (ignored_stands names primary lines line.1 items kept differ stands read (is ∙ none))
          ]) refl
      | Err fault ↦ λ e g. absurd (cc)
    ]) refl h

pub options_stand : (names : List (List ℕ)) (primary : ℕ) (before : List (List (List ℕ))) (lines : List (ℕ × List (List ℕ))) (kept read : KeptOptions) → names_differ names ≡ true → Stands names primary before kept → options_from names primary kept lines ≡ Ok read → Stands names primary (before ++ words_in lines) read
unfolding options_from
options_stand names primary before [] kept read differ stands h = let same : kept ≡ read = cc in rw (append-nil before, ← same) stands
options_stand names primary before (line ∷ lines) kept read differ stands h =
    (elim (option_at names primary kept line) as (λ r. option_at names primary kept line ≡ r → (r >>= (λ more. options_from names primary more lines)) ≡ Ok read → Stands names primary (before ++ line.1 ∷ words_in lines) read) [
      | Ok more ↦ λ e g. rw (← append_assoc before (line.1 ∷ []) (words_in lines)) (options_stand names primary (before ++ line.1 ∷ []) lines more read differ (line_stands names primary before line kept more differ stands e) g)
      | Err fault ↦ λ e g. absurd (cc)
    ]) refl h
