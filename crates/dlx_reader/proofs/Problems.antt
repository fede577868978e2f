-- What is read is a problem.
use Rattle.std.proofs.Common.{◌≡◌, ℕ, zero, suc, ◌+◌, ◌<◌, ◌≤◌, List, [], ◌∷◌, length, drop, map, take, Ok, true, false, not, ◌&&◌, ◌||◌, ◌==◌, nat_lt, cond, refl, sym, ap, ◌∙◌, arith, get_or, add-one}
use Rattle.std.specs.List.{list_all}
use Rattle.std.proofs.lemmas.Bool.{and_parts, and_from, eqb-true, ltb-true, lt-ltb, not-true, true≢false}
use Rattle.std.proofs.lemmas.List.Sums.{AllPass-from_list_all}
use Rattle.cover_problem.specs.Numbers.{is_distinct, are_below, some_below}
use Rattle.cover_problem.specs.Problem.{IsProblem, problem_by, is_name, names_differ, colour_beside}
use Rattle.dlx_reader.specs.Content.{begins_with_bar, is_content}
use Rattle.dlx_reader.specs.Items.{names_in, primary_in}
use Rattle.dlx_reader.specs.Content.{is_word}
use Rattle.dlx_reader.specs.Options.{KeptOptions}
use Rattle.dlx_reader.specs.Names.{is_among}
use Rattle.dlx_reader.specs.Occurrences.{has_colon, item_part, colour_part}
use Rattle.dlx_reader.specs.OptionLines.{names_of, names_primary, is_occurrence, is_option_line, kept_lines, names_of_colours}
use Rattle.dlx_reader.specs.Reading.{items_from, options_from, none_kept}
use Rattle.dlx_reader.proofs.Differing.{among_first}
use Rattle.dlx_reader.proofs.ItemLines.{items_read}
use Rattle.dlx_reader.proofs.Lawful.{is_inner}
use Rattle.dlx_reader.proofs.OptionLines.{is_option, none_stands, options_stand, words_in}
use Rattle.dlx_reader.proofs.Parts.{no_colon}

-- each word before the separator gives a name
pub primary-le : (words : List (List ℕ)) → list_all is_word words ≡ true → primary_in words ≤ length (names_in words)
primary-le [] h = omega arith
primary-le (word ∷ words) h =
    let parts = and_parts (is_word word) (list_all is_word words) h in
    let rest = primary-le words parts.1 in
    let some : not (length word == 0) ≡ true = (and_parts (not (length word == 0)) (list_all is_inner word) parts.0).0 in
    elim (begins_with_bar word) as (λ b. cond (not b) (1 + primary_in words) 0 ≤ length (cond (not (length (cond b (drop 1 word) word) == 0)) (cond b (drop 1 word) word ∷ names_in words) (names_in words))) [
      | true ↦ omega arith
      | false ↦ rw some (omega arith)
    ]

-- the first word of the item line stands before the separator
pub some_primary : (words : List (List ℕ)) → is_content words ≡ true → 1 ≤ primary_in words
some_primary [] h = absurd (cc)
some_primary (word ∷ words) h = rw h (omega arith)

-- ---- primary items have no colours

-- a colour without a name is none
nameless : (names : List (List ℕ)) (colour : ℕ) → list_all is_name names ≡ true → colour < length ([] ∷ names) → get_or ([] ∷ names) colour [] ≡ [] → colour ≡ 0
nameless names zero lawful inside h = refl
nameless names (suc k) lawful inside h =
    let name : is_name (get_or names k []) ≡ true = AllPass-from_list_all is_name names lawful k [] (omega arith) in
    absurd (true≢false (sym name ∙ ap is_name h))

-- a word that names a primary item has no colour
plain_word : (names : List (List ℕ)) (primary item : ℕ) (word : List ℕ) → names_differ names ≡ true → item < length names → item < primary → get_or names item [] ≡ item_part word → is_occurrence names (take primary names) word ≡ true → colour_part word ≡ []
plain_word names primary item word differ inside low named occurs =
    let parts = and_parts (is_among names (item_part word)) (not (has_colon word) || (is_name (colour_part word) && not (is_among (take primary names) (item_part word)))) occurs in
    let first : is_among (take primary names) (item_part word) ≡ true = ap (is_among (take primary names)) (sym named) ∙ among_first names primary item differ inside ∙ lt-ltb item primary low in
    (elim (has_colon word) as (λ b. has_colon word ≡ b → (not b || (is_name (colour_part word) && not (is_among (take primary names) (item_part word)))) ≡ true → colour_part word ≡ []) [
      | true ↦ λ colon h.
          let other = (and_parts (is_name (colour_part word)) (not (is_among (take primary names) (item_part word))) h).1 in
          absurd (true≢false (sym first ∙ not-true (is_among (take primary names) (item_part word)) other))
      | false ↦ λ none h. (no_colon word none).1
    ]) refl parts.1

plain_beside : (names colour_names : List (List ℕ)) (primary item : ℕ) (items colours : List ℕ) (words : List (List ℕ)) → names_differ names ≡ true → list_all is_name colour_names ≡ true → item < primary → are_below (length names) items ≡ true → are_below (length ([] ∷ colour_names)) colours ≡ true → names_of names items ≡ map item_part words → names_of_colours colour_names colours ≡ map colour_part words → list_all (is_occurrence names (take primary names)) words ≡ true → colour_beside items colours item ≡ 0
plain_beside names colour_names primary item [] colours words differ lawful low below under named coloured occur = refl
plain_beside names colour_names primary item (i ∷ is) [] words differ lawful low below under named coloured occur = refl
plain_beside names colour_names primary item (i ∷ is) (c ∷ cs) [] differ lawful low below under named coloured occur = absurd (cc)
plain_beside names colour_names primary item (i ∷ is) (c ∷ cs) (word ∷ words) differ lawful low below under named coloured occur =
    let inside = and_parts (nat_lt i (length names)) (are_below (length names) is) below in
    let numbers = and_parts (nat_lt c (length ([] ∷ colour_names))) (are_below (length ([] ∷ colour_names)) cs) under in
    let occurs = and_parts (is_occurrence names (take primary names) word) (list_all (is_occurrence names (take primary names)) words) occur in
    let name : get_or names i [] ≡ item_part word = cc in
    let names_left : names_of names is ≡ map item_part words = cc in
    let colour : get_or ([] ∷ colour_names) c [] ≡ colour_part word = cc in
    let colours_left : names_of_colours colour_names cs ≡ map colour_part words = cc in
    (elim (i == item) as (λ b. (i == item) ≡ b → cond b c (colour_beside is cs item) ≡ 0) [
      | true ↦ λ same.
          let own : i ≡ item = eqb-true i item same in
          let plain = plain_word names primary i word differ (ltb-true i (length names) inside.0) (omega (arith, own, low)) name occurs.0 in
          nameless colour_names c lawful (ltb-true c (length ([] ∷ colour_names)) numbers.0) (colour ∙ plain)
      | false ↦ λ other. plain_beside names colour_names primary item is cs words differ lawful low inside.1 numbers.1 names_left colours_left occurs.1
    ]) refl

plain_all : (names colour_names : List (List ℕ)) (primary option item : ℕ) (options colours : List (List ℕ)) (lines : List (List (List ℕ))) → names_differ names ≡ true → list_all is_name colour_names ≡ true → item < primary → list_all (is_option primary (length names)) options ≡ true → list_all (are_below (length ([] ∷ colour_names))) colours ≡ true → map (names_of names) options ≡ map (map item_part) lines → map (names_of_colours colour_names) colours ≡ map (map colour_part) lines → list_all (list_all (is_occurrence names (take primary names))) lines ≡ true → colour_beside (get_or options option []) (get_or colours option []) item ≡ 0
plain_all names colour_names primary option item [] colours lines differ lawful low each under named coloured occur = refl
plain_all names colour_names primary option item (is ∷ options) [] [] differ lawful low each under named coloured occur = absurd (cc)
plain_all names colour_names primary option item (is ∷ options) [] (words ∷ lines) differ lawful low each under named coloured occur = absurd (cc)
plain_all names colour_names primary option item (is ∷ options) (cs ∷ colours) [] differ lawful low each under named coloured occur = absurd (cc)
plain_all names colour_names primary zero item (is ∷ options) (cs ∷ colours) (words ∷ lines) differ lawful low each under named coloured occur =
    let one = and_parts (is_option primary (length names) is) (list_all (is_option primary (length names)) options) each in
    let below = and_parts (are_below (length names) is) (is_distinct is) (and_parts (some_below primary is) (are_below (length names) is && is_distinct is) one.0).1 in
    let numbers = and_parts (are_below (length ([] ∷ colour_names)) cs) (list_all (are_below (length ([] ∷ colour_names))) colours) under in
    let occurs = and_parts (list_all (is_occurrence names (take primary names)) words) (list_all (list_all (is_occurrence names (take primary names))) lines) occur in
    let first : names_of names is ≡ map item_part words = cc in
    let colour : names_of_colours colour_names cs ≡ map colour_part words = cc in
    plain_beside names colour_names primary item is cs words differ lawful low below.0 numbers.0 first colour occurs.0
plain_all names colour_names primary (suc option) item (is ∷ options) (cs ∷ colours) (words ∷ lines) differ lawful low each under named coloured occur =
    let one = and_parts (is_option primary (length names) is) (list_all (is_option primary (length names)) options) each in
    let numbers = and_parts (are_below (length ([] ∷ colour_names)) cs) (list_all (are_below (length ([] ∷ colour_names))) colours) under in
    let occurs = and_parts (list_all (is_occurrence names (take primary names)) words) (list_all (list_all (is_occurrence names (take primary names))) lines) occur in
    let rest : map (names_of names) options ≡ map (map item_part) lines = cc in
    let others : map (names_of_colours colour_names) colours ≡ map (map colour_part) lines = cc in
    plain_all names colour_names primary option item options colours lines differ lawful low one.1 numbers.1 rest others occurs.1

-- the words of the lines that are kept occur
kept_occur : (names primary_names : List (List ℕ)) (lines : List (List (List ℕ))) → list_all (is_option_line names primary_names) lines ≡ true → list_all (list_all (is_occurrence names primary_names)) (kept_lines primary_names lines) ≡ true
kept_occur names primary_names [] h = refl
kept_occur names primary_names (words ∷ lines) h =
    let parts = and_parts (is_option_line names primary_names words) (list_all (is_option_line names primary_names) lines) h in
    let rest = kept_occur names primary_names lines parts.1 in
    elim (names_primary primary_names words) as (λ b. list_all (list_all (is_occurrence names primary_names)) (cond b (words ∷ kept_lines primary_names lines) (kept_lines primary_names lines)) ≡ true) [
      | true ↦
          and_from (list_all (is_occurrence names primary_names) words) (list_all (list_all (is_occurrence names primary_names)) (kept_lines primary_names lines))
          (and_parts (list_all (is_occurrence names primary_names) words) (names_differ (map item_part words)) parts.0).0 rest
      | false ↦ rest
    ]

-- ---- the problem

-- each option has as many colours as items
same_lengths : {X Y Z : Type 0} (f : X → Z) (g : Y → Z) (xs : List (List X)) (ys : List (List Y)) → map (map f) xs ≡ map (map g) ys → map length xs ≡ map length ys
same_lengths f g xs ys same = sym (each_length f xs) ∙ ap (map length) same ∙ each_length g ys
  where
    one_length : {X Z : Type 0} (h : X → Z) (ws : List X) → length (map h ws) ≡ length ws
    one_length h [] = refl
    one_length h (w ∷ ws) = ap suc (one_length h ws)

    each_length : {X Z : Type 0} (h : X → Z) (ws : List (List X)) → map length (map (map h) ws) ≡ map length ws
    each_length h [] = refl
    each_length h (w ∷ ws) = rw (one_length h w, each_length h ws) refl

-- the words of lines are words
pub lines_words : (lines : List (ℕ × List (List ℕ))) → list_all (λ line. list_all is_word line.1) lines ≡ true → list_all (list_all is_word) (words_in lines) ≡ true
lines_words [] h = refl
lines_words (line ∷ lines) h =
    let parts = and_parts (list_all is_word line.1) (list_all (λ (l : ℕ × List (List ℕ)). list_all is_word l.1) lines) h in
    and_from (list_all is_word line.1) (list_all (list_all is_word) (words_in lines)) parts.0 (lines_words lines parts.1)

-- an item line and lines of options that are read make a problem
pub read_is_problem : (line : ℕ) (words : List (List ℕ)) (others : List (ℕ × List (List ℕ))) (names : List (List ℕ)) (kept : KeptOptions) → is_content words ≡ true → list_all is_word words ≡ true → list_all (λ line. list_all is_word line.1) others ≡ true → items_from line [] false words ≡ Ok names → options_from names (primary_in words) none_kept others ≡ Ok kept → IsProblem (problem_by names (primary_in words) kept.options kept.colours kept.colour_names)
read_is_problem line words others names kept content each lines_each items options =
    let primary = primary_in words in
    let item_line = items_read line [] false words names items in
    let differ = item_line.differ refl in
    let stands = options_stand names primary [] others none_kept kept differ (none_stands names primary) options in
    let inner = lines_words others lines_each in
    let option = AllPass-from_list_all (is_option primary (length names)) kept.options stands.each in
    let lines = kept_lines (take primary names) (words_in others) in
    let colours_long : map length kept.colours ≡ map length lines = same_lengths (λ c. get_or ([] ∷ kept.colour_names) c []) colour_part kept.colours lines stands.colours in
    let options_long : map length kept.options ≡ map length lines = same_lengths (λ i. get_or names i []) item_part kept.options lines stands.options in
    let next : suc (length kept.colour_names) ≡ length kept.colour_names + 1 = sym (add-one (length kept.colour_names)) in
    record {
      some_primary = some_primary words content;
      primary = rw item_line.whole (primary-le words each);
      names = item_line.room (omega arith);
      options = stands.count;
      occurrences = stands.occurrences;
      each_name = AllPass-from_list_all is_name names (item_line.lawful each refl);
      distinct_names = differ;
      each_primary = λ k d h. (and_parts (some_below primary (get_or kept.options k d)) (are_below (length names) (get_or kept.options k d) && is_distinct (get_or kept.options k d)) (option k d h)).0;
      each_named = λ k d h. (and_parts (are_below (length names) (get_or kept.options k d)) (is_distinct (get_or kept.options k d)) (and_parts (some_below primary (get_or kept.options k d)) (are_below (length names) (get_or kept.options k d) && is_distinct (get_or kept.options k d)) (option k d h)).1).0;
      each_distinct = λ k d h. (and_parts (are_below (length names) (get_or kept.options k d)) (is_distinct (get_or kept.options k d)) (and_parts (some_below primary (get_or kept.options k d)) (are_below (length names) (get_or kept.options k d) && is_distinct (get_or kept.options k d)) (option k d h)).1).1;
      each_coloured = colours_long ∙ sym options_long;
      each_colour = AllPass-from_list_all (are_below (length kept.colour_names + 1)) kept.colours (ap (λ n. list_all (are_below n) kept.colours) (sym next) ∙ stands.numbers);
      plain_primary = λ o item low.
          plain_all names kept.colour_names primary o item kept.options kept.colours lines differ (stands.named inner) low stands.each stands.numbers stands.options stands.colours (kept_occur names (take primary names) (words_in others) (stands.lawful inner));
      colour_names = stands.room;
      each_colour_name = AllPass-from_list_all is_name kept.colour_names (stands.named inner);
      distinct_colour_names = stands.differ;
    }
