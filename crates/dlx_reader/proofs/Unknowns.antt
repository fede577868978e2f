-- Which names of words no item has.
use Rattle.std.proofs.Common.{◌≡◌, ℕ, List, [], ◌∷◌, ◌++◌, Option, Some, None, Result, Ok, Bool, true, false, not, cond, is_some, refl, sym, ap, ◌∙◌}
use Rattle.dlx_reader.specs.Faults.{part_tests}
use Rattle.dlx_reader.specs.Names.{is_among, item_named}
use Rattle.dlx_reader.specs.Occurrences.{has_colon, item_part, colour_part}
use Rattle.dlx_reader.specs.Reading.{after, items_from}
use Rattle.dlx_reader.specs.Unknown.{IsFirstName, IsOther, NamesUnknown, unknown_among, unknown_in, unknown_of}
use Rattle.dlx_reader.specs.declared.fault.ReadFault.{ReadFault}
use Rattle.dlx_reader.specs.declared.text_fault.TextFault.{TextFault}
use Rattle.dlx_reader.specs.declared.text_fault.TextFault.TheVariants.{UnknownItem, Other}
use Rattle.dlx_reader.proofs.Firsts.{after_ok}
use Rattle.dlx_reader.proofs.ItemLines.{items_read}
use Rattle.dlx_reader.proofs.Naming.{is_some-named}

-- what is true of the names is true of other ones, in what a fault says
names_more : (P Q : List ℕ → Type 0) → ((name : List ℕ) → P name → Q name) → (fault : TextFault) → NamesUnknown P fault → NamesUnknown Q fault
names_more P Q more (UnknownItem unknown) h = more _ h
names_more P Q more (Other fault) h = h

-- ---- one word

-- no item has the name of a word
pub unknown_alone : (line : ℕ) (names : List (List ℕ)) (word name : List ℕ) → after (part_tests line (has_colon word) (item_part word) (colour_part word)) (item_part word) ≡ Ok name → item_named names name ≡ None → IsFirstName (unknown_in names (word ∷ [])) name
unknown_alone line names word name read none =
    let same : item_part word ≡ name = (after_ok (part_tests line (has_colon word) (item_part word) (colour_part word)) (item_part word) name read).0 in
    let other : is_among names name ≡ false = sym (is_some-named names name) ∙ ap is_some none in
    record { others = []; first = rw (same, other) refl }

-- or one has
pub known_alone : (line : ℕ) (names : List (List ℕ)) (word name : List ℕ) (item : ℕ) → after (part_tests line (has_colon word) (item_part word) (colour_part word)) (item_part word) ≡ Ok name → item_named names name ≡ Some item → unknown_in names (word ∷ []) ≡ []
known_alone line names word name item read some =
    let same : item_part word ≡ name = (after_ok (part_tests line (has_colon word) (item_part word) (colour_part word)) (item_part word) name read).0 in
    let among : is_among names name ≡ true = sym (is_some-named names name) ∙ ap is_some some in
    rw (same, among) refl

-- ---- the words of a line

pub first_word : (names words : List (List ℕ)) (word name : List ℕ) → IsFirstName (unknown_in names (word ∷ [])) name → IsFirstName (unknown_in names (word ∷ words)) name
first_word names words word name h =
    (elim (is_among names (item_part word)) as (λ b. IsFirstName (cond (not b) (item_part word ∷ []) []) name → IsFirstName (cond (not b) (item_part word ∷ unknown_in names words) (unknown_in names words)) name) [
      | true ↦ λ g. absurd (cc (g.first))
      | false ↦ λ g. let same : item_part word ≡ name = cc (g.first) in record { others = unknown_in names words; first = ap (λ x. x ∷ unknown_in names words) same }
    ]) h

-- where one has it, those of further words are left
pub known_word : (names words left all : List (List ℕ)) (word : List ℕ) → left ≡ word ∷ words → unknown_in names left ≡ unknown_in names all → unknown_in names (word ∷ []) ≡ [] → unknown_in names words ≡ unknown_in names all
known_word names words left all word is same none = more (rw is at same)
  where
    further : (b : Bool) → cond (not b) (item_part word ∷ []) [] ≡ [] → unknown_in names words ≡ cond (not b) (item_part word ∷ unknown_in names words) (unknown_in names words)
    further true h = refl
    further false h = absurd (cc)

    more : unknown_in names (word ∷ words) ≡ unknown_in names all → unknown_in names words ≡ unknown_in names all
    more h = further (is_among names (item_part word)) none ∙ h

-- a fault at a word is one of its line
pub fault_of_word : (names words left all : List (List ℕ)) (word : List ℕ) (fault : TextFault) → left ≡ word ∷ words → unknown_in names left ≡ unknown_in names all → NamesUnknown (IsFirstName (unknown_in names (word ∷ []))) fault → NamesUnknown (IsFirstName (unknown_in names all)) fault
fault_of_word names words left all word fault is same h =
    rw (← same, is) (names_more (IsFirstName (unknown_in names (word ∷ []))) (IsFirstName (unknown_in names (word ∷ words))) (first_word names words word) fault h)

-- ---- lines

-- a fault in a line is one of all lines
pub fault_of_line : (names : List (List ℕ)) (line : ℕ × List (List ℕ)) (lines left all : List (ℕ × List (List ℕ))) (fault : TextFault) → left ≡ line ∷ lines → unknown_among names left ≡ unknown_among names all → NamesUnknown (IsFirstName (unknown_in names line.1)) fault → NamesUnknown (IsFirstName (unknown_among names all)) fault
fault_of_line names line lines left all fault is same h =
    rw (← same, is) (names_more (IsFirstName (unknown_in names line.1)) (IsFirstName (unknown_among names (line ∷ lines))) before fault h)
  where
    before : (name : List ℕ) → IsFirstName (unknown_in names line.1) name → IsFirstName (unknown_among names (line ∷ lines)) name
    before name g = record { others = g.others ++ unknown_among names lines; first = rw g.first refl }

-- where it has none, those of further lines are left
pub known_line : (names : List (List ℕ)) (line : ℕ × List (List ℕ)) (lines left all : List (ℕ × List (List ℕ))) → left ≡ line ∷ lines → unknown_among names left ≡ unknown_among names all → unknown_in names line.1 ≡ [] → unknown_among names lines ≡ unknown_among names all
known_line names line lines left all is same none =
    let whole : unknown_in names line.1 ++ unknown_among names lines ≡ unknown_among names all = rw is at same in
    rw none at whole

-- a fault of the lines of options is one of the text
pub fault_of_options : (line : ℕ) (words names : List (List ℕ)) (others : List (ℕ × List (List ℕ))) (fault : TextFault) → items_from line [] false words ≡ Ok names → NamesUnknown (IsFirstName (unknown_among names others)) fault → NamesUnknown (IsFirstName (unknown_of ((line, words) ∷ others))) fault
fault_of_options line words names others fault items h =
    rw (← (items_read line [] false words names items).whole) h
