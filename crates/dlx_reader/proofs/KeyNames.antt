-- The names of a line's words, and the items and colours that they name.
use Rattle.std.proofs.Common.{◌≡◌, ℕ, zero, suc, ◌+◌, ◌<◌, ◌≤◌, List, [], ◌∷◌, ◌++◌, length, take, get_or, map, Some, None, true, false, nat_eq, nat_lt, cond, is_some, refl, sym, ap, ◌∙◌, arith, All, add-one, append-nil}
use Rattle.std.proofs.lemmas.Bool.{le-ltb, lt-ltb, ltb-true, and_parts, true≢false, eqb-true}
use Rattle.std.proofs.lemmas.List.{take_more, length-map}
use Rattle.std.proofs.lemmas.List.Elements.{All-head, All-tail}
use Rattle.std.proofs.Math.Dec.{eqb-suc-zero}
use Rattle.std.proofs.Math.Seq.{take-length}
use Rattle.std.specs.Cmp.Lexicographic.{bytes_decides}
use Rattle.std.specs.List.{zip}
use Rattle.std.specs.Option.{unwrap_or}
use Rattle.cover_problem.proofs.Colours.{colours_long, colours_below}
use Rattle.cover_problem.specs.Numbers.{are_below}
use Rattle.cover_problem.specs.Problem.{Problem, IsProblem, items_of, colours_of, names_differ}
use Rattle.dlx_reader.specs.Answers.{IsFree, IsLowestFree}
use Rattle.dlx_reader.specs.OptionIndex.{key_of, key_named, item_or_none, colour_or_none, IsUnmeant, IsLowestUnmeant}
use Rattle.dlx_reader.specs.Names.{is_among, item_named}
use Rattle.dlx_reader.specs.Occurrences.{has_colon, item_part, colour_part}
use Rattle.dlx_reader.specs.Writing.{name_text, colour_behind, word_text, occurrences_of, option_words}
use Rattle.dlx_reader.proofs.Differing.{same_name, among_first}
use Rattle.dlx_reader.proofs.Keys.{same_halves}
use Rattle.dlx_reader.proofs.NameBytes.{name_no_colon, option_coloured}
use Rattle.dlx_reader.proofs.Naming.{named_at, is_some-named}
use Rattle.dlx_reader.proofs.Parts.{no_colon, joined, word_parts}
use Rattle.cover_problem.proofs.Named.{option_named}

-- ---- names in their order

pub name_fresh : (names : List (List ℕ)) (item : ℕ) (name : List ℕ) → names_differ names ≡ true → item < length names → name ≡ get_or names item [] → is_among (take item names) name ≡ false
name_fresh names item name differ inside is = ap (is_among (take item names)) is ∙ among_first names item item differ inside ∙ le-ltb item item (omega arith)

pub names_next : (names more : List (List ℕ)) (item : ℕ) (name : List ℕ) → item < length names → name ≡ get_or names item [] → more ≡ take item names ++ name ∷ [] → more ≡ take (item + 1) names
names_next names more item name inside is all = all ∙ ap (λ (n : List ℕ). take item names ++ n ∷ []) is ∙ sym (take_more names item [] inside)

-- ---- the item of a name

pub own_named : (names : List (List ℕ)) (item : ℕ) → names_differ names ≡ true → item < length names → item_named names (get_or names item []) ≡ Some item
own_named names item differ inside =
    (elim (item_named names (get_or names item [])) as (λ found. item_named names (get_or names item []) ≡ found → item_named names (get_or names item []) ≡ Some item) [
      | None ↦ λ e.
          let among : is_among names (get_or names item []) ≡ true = ap (λ all. is_among all (get_or names item [])) (sym (take-length names)) ∙ among_first names (length names) item differ inside ∙ lt-ltb item (length names) inside in
          absurd (true≢false (sym among ∙ sym (is_some-named names (get_or names item [])) ∙ ap is_some e))
      | Some k ↦ λ e.
          let at_k = named_at names (get_or names item []) k e in
          let same : nat_eq k item ≡ true = sym (same_name names k item differ at_k.0 inside) ∙ (bytes_decides (get_or names k []) (get_or names item [])).1 at_k.1 in
          e ∙ ap Some (eqb-true k item same)
    ]) refl

-- the number of a name, or how many names there are
abbrev number_or_none : List (List ℕ) → List ℕ → ℕ
number_or_none names name = unwrap_or (item_named names name) (length names)

own_number : (names : List (List ℕ)) (item : ℕ) → names_differ names ≡ true → item < length names → number_or_none names (get_or names item []) ≡ item
own_number names item differ inside = ap (λ found. unwrap_or found (length names)) (own_named names item differ inside)

number_name : (names : List (List ℕ)) (name : List ℕ) (item : ℕ) → number_or_none names name ≡ item → item < length names → get_or names item [] ≡ name
number_name names name item is inside =
    (elim (item_named names name) as (λ found. item_named names name ≡ found → get_or names item [] ≡ name) [
      | None ↦ λ e. let none : length names ≡ item = sym (ap (λ found. unwrap_or found (length names)) e) ∙ is in absurd (omega (arith, none, inside))
      | Some k ↦ λ e.
          let same : k ≡ item = sym (ap (λ found. unwrap_or found (length names)) e) ∙ is in
          ap (λ n. get_or names n []) (sym same) ∙ (named_at names name k e).1
    ]) refl

-- ---- the item and the colour of a word

-- those of a word that is written
record IsSpelled (p : Problem) (occurrence : ℕ × ℕ) : Type 0 where
  item : item_or_none p.names (word_text p occurrence) ≡ occurrence.0
  colour : colour_or_none p.colour_names (word_text p occurrence) ≡ occurrence.1

written_spelled : (p : Problem) (item colour : ℕ) → IsProblem p → item < length p.names → colour ≤ length p.colour_names → IsSpelled p (item, colour)
written_spelled p item zero problem inside named =
    let name = name_text p item in
    let same : word_text p (item, 0) ≡ name = append-nil name in
    let none : has_colon name ≡ false = name_no_colon name (problem.each_name item [] inside) in
    let uncoloured : colour_or_none p.colour_names name ≡ 0 = rw none refl in
    record {
      item = ap (item_or_none p.names) same ∙ ap (number_or_none p.names) (no_colon name none).0 ∙ own_number p.names item problem.distinct_names inside;
      colour = ap (colour_or_none p.colour_names) same ∙ uncoloured;
    }
written_spelled p item (suc colour) problem inside named =
    let name = name_text p item in
    let below : colour < length p.colour_names = omega arith in
    let parts = joined name (get_or p.colour_names colour []) (name_no_colon name (problem.each_name item [] inside)) in
    let same : word_text p (item, suc colour) ≡ name ++ 58 ∷ get_or p.colour_names colour [] = rw (eqb-suc-zero colour) refl in
    let coloured : colour_or_none p.colour_names (name ++ 58 ∷ get_or p.colour_names colour []) ≡ number_or_none p.colour_names (get_or p.colour_names colour []) + 1 = rw (parts.colon, parts.colour) refl in
    record {
      item = ap (item_or_none p.names) same ∙ ap (number_or_none p.names) parts.item ∙ own_number p.names item problem.distinct_names inside;
      colour = ap (colour_or_none p.colour_names) same ∙ coloured ∙ ap (λ n. n + 1) (own_number p.colour_names colour problem.distinct_colour_names below) ∙ add-one colour;
    }

-- a word that names an item, and has a colour or none, is written so
word_again : (p : Problem) (word : List ℕ) → item_or_none p.names word < length p.names → colour_or_none p.colour_names word < length ([] ∷ p.colour_names) → word_text p (item_or_none p.names word, colour_or_none p.colour_names word) ≡ word
word_again p word inside below =
    let name = number_name p.names (item_part word) (item_or_none p.names word) refl inside in
    (elim (has_colon word) as (λ b. has_colon word ≡ b → cond b (number_or_none p.colour_names (colour_part word) + 1) 0 < length ([] ∷ p.colour_names) → name_text p (item_or_none p.names word) ++ colour_behind p (cond b (number_or_none p.colour_names (colour_part word) + 1) 0) ≡ word) [
      | true ↦ λ colon within.
          let number = number_or_none p.colour_names (colour_part word) in
          let next : number + 1 ≡ suc number = add-one number in
          let named : get_or p.colour_names number [] ≡ colour_part word = number_name p.colour_names (colour_part word) number refl (omega arith) in
          rw (next, eqb-suc-zero number, name, named) (ap (λ b. item_part word ++ cond b (58 ∷ colour_part word) []) (sym colon) ∙ sym (word_parts word))
      | false ↦ λ none within. rw name (ap (λ b. item_part word ++ cond b (58 ∷ colour_part word) []) (sym none) ∙ sym (word_parts word))
    ]) refl below

-- ---- the keys of words

items_again : (p : Problem) (items colours : List ℕ) → IsProblem p → length colours ≡ length items → All (λ i. i < length p.names) items → All (λ c. c ≤ length p.colour_names) colours → map (item_or_none p.names) (map (word_text p) (zip items colours)) ≡ items
items_again p [] colours problem long all_items all_colours = refl
items_again p (i ∷ is) [] problem long all_items all_colours = absurd (omega (arith, long))
items_again p (i ∷ is) (c ∷ cs) problem long all_items all_colours =
    let here = written_spelled p i c problem (All-head (λ x. x < length p.names) i is all_items) (All-head (λ x. x ≤ length p.colour_names) c cs all_colours) in
    let rest = items_again p is cs problem (omega (arith, long)) (All-tail (λ x. x < length p.names) i is all_items) (All-tail (λ x. x ≤ length p.colour_names) c cs all_colours) in
    ap (λ first. first ∷ map (item_or_none p.names) (map (word_text p) (zip is cs))) here.item ∙ ap (λ others. i ∷ others) rest

colours_again : (p : Problem) (items colours : List ℕ) → IsProblem p → length colours ≡ length items → All (λ i. i < length p.names) items → All (λ c. c ≤ length p.colour_names) colours → map (colour_or_none p.colour_names) (map (word_text p) (zip items colours)) ≡ colours
colours_again p [] [] problem long all_items all_colours = refl
colours_again p [] (c ∷ cs) problem long all_items all_colours = absurd (omega (arith, long))
colours_again p (i ∷ is) [] problem long all_items all_colours = absurd (omega (arith, long))
colours_again p (i ∷ is) (c ∷ cs) problem long all_items all_colours =
    let here = written_spelled p i c problem (All-head (λ x. x < length p.names) i is all_items) (All-head (λ x. x ≤ length p.colour_names) c cs all_colours) in
    let rest = colours_again p is cs problem (omega (arith, long)) (All-tail (λ x. x < length p.names) i is all_items) (All-tail (λ x. x ≤ length p.colour_names) c cs all_colours) in
    ap (λ first. first ∷ map (colour_or_none p.colour_names) (map (word_text p) (zip is cs))) here.colour ∙ ap (λ others. c ∷ others) rest

words_again : (p : Problem) (words : List (List ℕ)) → are_below (length p.names) (map (item_or_none p.names) words) ≡ true → are_below (length ([] ∷ p.colour_names)) (map (colour_or_none p.colour_names) words) ≡ true → map (word_text p) (zip (map (item_or_none p.names) words) (map (colour_or_none p.colour_names) words)) ≡ words
words_again p [] below under = refl
words_again p (word ∷ words) below under =
    let items = and_parts (nat_lt (item_or_none p.names word) (length p.names)) (are_below (length p.names) (map (item_or_none p.names) words)) below in
    let colours = and_parts (nat_lt (colour_or_none p.colour_names word) (length ([] ∷ p.colour_names))) (are_below (length ([] ∷ p.colour_names)) (map (colour_or_none p.colour_names) words)) under in
    let here = word_again p word (ltb-true (item_or_none p.names word) (length p.names) items.0) (ltb-true (colour_or_none p.colour_names word) (length ([] ∷ p.colour_names)) colours.0) in
    let rest = words_again p words items.1 colours.1 in
    ap (λ first. first ∷ map (word_text p) (zip (map (item_or_none p.names) words) (map (colour_or_none p.colour_names) words))) here ∙ ap (λ others. word ∷ others) rest

-- the words of an option give its key
option_key : (p : Problem) (o : ℕ) → IsProblem p → o < length p.options → key_named p.names p.colour_names (option_words p o) ≡ key_of p o
option_key p o problem inside =
    let long = colours_long p o problem in
    let named = option_named p o problem inside in
    let coloured = option_coloured p o problem inside in
    rw (items_again p (items_of p o) (colours_of p o) problem long named coloured, colours_again p (items_of p o) (colours_of p o) problem long named coloured) refl

-- options with the same words have the same items and colours
pub same_occurrences : (p : Problem) (o k : ℕ) → IsProblem p → o < length p.options → k < length p.options → option_words p o ≡ option_words p k → occurrences_of p o ≡ occurrences_of p k
same_occurrences p o k problem in_o in_k same =
    let keys : key_of p o ≡ key_of p k = sym (option_key p o problem in_o) ∙ ap (key_named p.names p.colour_names) same ∙ option_key p k problem in_k in
    let halves = same_halves (items_of p o) (colours_of p o) (items_of p k) (colours_of p k) (colours_long p o problem) (colours_long p k problem) keys in
    ap (λ is. zip is (colours_of p o)) halves.first_same ∙ ap (λ cs. zip (items_of p k) cs) halves.second_same

-- ---- free options

free_from_unmeant : (p : Problem) (used : List ℕ) (words : List (List ℕ)) (o : ℕ) → IsProblem p → IsUnmeant p used (key_named p.names p.colour_names words) o → IsFree p used words o
free_from_unmeant p used words o problem h =
    let items = map (item_or_none p.names) words in
    let colours = map (colour_or_none p.colour_names) words in
    let even : length colours ≡ length items = length-map words (colour_or_none p.colour_names) ∙ sym (length-map words (item_or_none p.names)) in
    let halves = same_halves (items_of p o) (colours_of p o) items colours (colours_long p o problem) even h.has in
    let next : length p.colour_names + 1 ≡ length ([] ∷ p.colour_names) = add-one (length p.colour_names) in
    let below : are_below (length p.names) items ≡ true = ap (are_below (length p.names)) (sym halves.first_same) ∙ problem.each_named o [] h.in_range in
    let under : are_below (length ([] ∷ p.colour_names)) colours ≡ true =
    ap (λ n. are_below n colours) (sym next) ∙ ap (are_below (length p.colour_names + 1)) (sym halves.second_same) ∙ colours_below p o problem h.in_range in
    record {
      in_range = h.in_range;
      unused = h.unmeant;
      named = ap (λ is. map (word_text p) (zip is (colours_of p o))) halves.first_same ∙ ap (λ cs. map (word_text p) (zip items cs)) halves.second_same ∙ words_again p words below under;
    }

unmeant_from_free : (p : Problem) (used : List ℕ) (words : List (List ℕ)) (o : ℕ) → IsProblem p → IsFree p used words o → IsUnmeant p used (key_named p.names p.colour_names words) o
unmeant_from_free p used words o problem h = record {
  in_range = h.in_range;
  unmeant = h.unused;
  has = sym (option_key p o problem h.in_range) ∙ ap (key_named p.names p.colour_names) h.named;
}

pub lowest_from_unmeant : (p : Problem) (used : List ℕ) (words : List (List ℕ)) (key : List ℕ) (o : ℕ) → IsProblem p → key ≡ key_named p.names p.colour_names words → IsLowestUnmeant p used key o → IsLowestFree p used words o
lowest_from_unmeant p used words key o problem is h =
    let of_words : IsLowestUnmeant p used (key_named p.names p.colour_names words) o = rw (← is) h in
    record {
      free = free_from_unmeant p used words o problem of_words.free;
      lowest = λ k free. of_words.lowest k (unmeant_from_free p used words k problem free);
    }

pub none_from_unmeant : (p : Problem) (used : List ℕ) (words : List (List ℕ)) (key : List ℕ) → IsProblem p → key ≡ key_named p.names p.colour_names words → ((o : ℕ) → IsUnmeant p used key o → ⊥) → (o : ℕ) → IsFree p used words o → ⊥
none_from_unmeant p used words key problem is none o free =
    let unmeant : IsUnmeant p used key o = rw is (unmeant_from_free p used words o problem free) in
    none o unmeant
