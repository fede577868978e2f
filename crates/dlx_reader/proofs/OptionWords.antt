-- What the words of an option give.
use Rattle.std.proofs.Common.{◌≡◌, ℕ, ◌<◌, List, [], ◌∷◌, ◌++◌, length, Option, Some, None, Ok, Err, Bool, true, false, nat_lt, not, ◌&&◌, ◌||◌, ◌==◌, refl, sym, ap, ◌∙◌, append_assoc, append-nil, get_or, map, take, is_some}
use Rattle.std.specs.List.{list_all, list_any}
use Rattle.std.proofs.lemmas.Bool.{and_parts, and_from, or_parts, not_from_false, ltb-true, lt-ltb}
use Rattle.std.proofs.lemmas.List.{map-append}
use Rattle.std.proofs.lemmas.List.Folds.{list_all-append}
use Rattle.cover_problem.specs.Numbers.{is_in, is_distinct, are_below, some_below}
use Rattle.cover_problem.specs.Problem.{is_name, names_differ}
use Rattle.cover_problem.proofs.Repeats.{is_distinct-push}
use Rattle.dlx_reader.specs.Content.{is_word}
use Rattle.dlx_reader.specs.Faults.{is_illegal, is_bad_colour, part_tests}
use Rattle.dlx_reader.specs.Names.{is_among, item_named}
use Rattle.dlx_reader.specs.Occurrences.{has_colon, item_part, colour_part}
use Rattle.dlx_reader.specs.OptionLines.{names_of, is_occurrence}
use Rattle.dlx_reader.specs.Reading.{◌>>=◌, after, known_item, option_item_at, option_from}
use Rattle.dlx_reader.specs.declared.fault.ReadFault.{ReadFault}
use Rattle.dlx_reader.specs.declared.fault.ReadFault.TheVariants as faults
use Rattle.dlx_reader.proofs.Differing.{names_differ-push, same_name, among_first}
use Rattle.dlx_reader.proofs.Firsts.{Fails, after_ok}
use Rattle.dlx_reader.proofs.Lawful.{is_inner, is_name_from}
use Rattle.dlx_reader.proofs.Naming.{named_at, is_some-named}
use Rattle.dlx_reader.proofs.Parts.{colour_inner}

-- ---- numbers

pub are_below-push : (n : ℕ) (items : List ℕ) (item : ℕ) → are_below n items ≡ true → item < n → are_below n (items ++ item ∷ []) ≡ true
are_below-push n items item h below = list_all-append (λ i. nat_lt i n) items (item ∷ []) ∙ and_from (are_below n items) (nat_lt item n && true) h (and_from (nat_lt item n) true (lt-ltb item n below) refl)

-- ---- numbers and names

-- a name is among those of items where its item is one of them
pub same_item : (names : List (List ℕ)) (items : List ℕ) (item : ℕ) → names_differ names ≡ true → are_below (length names) items ≡ true → item < length names → is_among (names_of names items) (get_or names item []) ≡ is_in items item
same_item names [] item differ each h = refl
same_item names (own ∷ items) item differ each h =
    let parts = and_parts (nat_lt own (length names)) (are_below (length names) items) each in
    rw (same_name names own item differ (ltb-true own (length names) parts.0) h, same_item names items item differ parts.1 h) refl

-- a primary item has one of the first names
pub same_primary : (names : List (List ℕ)) (primary : ℕ) (items : List ℕ) → names_differ names ≡ true → are_below (length names) items ≡ true → list_any (is_among (take primary names)) (names_of names items) ≡ some_below primary items
same_primary names primary [] differ each = refl
same_primary names primary (item ∷ items) differ each =
    let parts = and_parts (nat_lt item (length names)) (are_below (length names) items) each in
    rw (among_first names primary item differ (ltb-true item (length names) parts.0), same_primary names primary items differ parts.1) refl

-- ---- a word

-- the tests behind the name of a word's item
abbrev pub item_last : ℕ → Bool → ℕ → List ℕ → ℕ → List (Bool × ReadFault)
item_last line colon primary items item = (is_in items item, faults.DuplicateInOption line) ∷ (colon && nat_lt item primary, faults.ColourOnPrimary line) ∷ []

-- a word of an option adds its item
pub record ReadsWord (line : ℕ) (names : List (List ℕ)) (primary : ℕ) (items : List ℕ) (word : List ℕ) (read : List ℕ) : Type 0 where
  pub item : ℕ
  pub named : item_named names (item_part word) ≡ Some item
  pub fresh : is_in items item ≡ false
  pub plain : (has_colon word && nat_lt item primary) ≡ false
  pub whole : read ≡ items ++ item ∷ []
  pub tests : Fails (part_tests line (has_colon word) (item_part word) (colour_part word))

known_read : (line : ℕ) (colon : Bool) (primary : ℕ) (items read : List ℕ) (found : Option ℕ) → (known_item line found >>= (λ item. after (item_last line colon primary items item) (items ++ item ∷ []))) ≡ Ok read → (item : ℕ) × ((found ≡ Some item) × (is_in items item ≡ false) × ((colon && nat_lt item primary) ≡ false) × (read ≡ items ++ item ∷ []))
known_read line colon primary items read None h = absurd (cc)
known_read line colon primary items read (Some item) h =
    let two = after_ok (item_last line colon primary items item) (items ++ item ∷ []) read h in
    (item, (refl, two.1.0, two.1.1.0, sym two.0))

pub word_read : (line : ℕ) (names : List (List ℕ)) (primary : ℕ) (items : List ℕ) (word : List ℕ) (read : List ℕ) → option_item_at line names primary items word ≡ Ok read → ReadsWord line names primary items word read
unfolding option_item_at
word_read line names primary items word read h =
    let tests = part_tests line (has_colon word) (item_part word) (colour_part word) in
    (elim (after tests (item_part word)) as (λ r. after tests (item_part word) ≡ r → (r >>= (λ name. known_item line (item_named names name) >>= (λ item. after (item_last line (has_colon word) primary items item) (items ++ item ∷ [])))) ≡ Ok read → ReadsWord line names primary items word read) [
      | Ok name ↦ λ e g.
          let two = after_ok tests (item_part word) name e in
          let known = known_read line (has_colon word) primary items read (item_named names name) g in
          record { item = known.0; named = ap (item_named names) two.0 ∙ known.1.0; fresh = known.1.1; plain = known.1.2; whole = known.1.3; tests = two.1 }
      | Err fault ↦ λ e g. absurd (cc)
    ]) refl h

-- a colour that passed the tests is one
colour_is_name : (name colour : List ℕ) → (list_any is_illegal name || list_any is_illegal colour) ≡ false → is_bad_colour true name colour ≡ false → list_all is_inner colour ≡ true → is_name colour ≡ true
colour_is_name name colour legal good inner =
    let bytes = or_parts (list_any is_illegal name) (list_any is_illegal colour) legal in
    let long = or_parts (length name == 0 || length colour == 0) (nat_lt 32 (length colour)) good in
    let some = or_parts (length name == 0) (length colour == 0) long.0 in
    is_name_from colour some.1 bytes.1 long.1 inner

-- a word that is read is an item's, with a colour where that may be
word_occurs : (line : ℕ) (names : List (List ℕ)) (primary : ℕ) (items : List ℕ) (word read : List ℕ) → names_differ names ≡ true → is_word word ≡ true → ReadsWord line names primary items word read → is_occurrence names (take primary names) word ≡ true
word_occurs line names primary items word read differ inner one =
    let at = named_at names (item_part word) one.item one.named in
    let among : is_among names (item_part word) ≡ true = sym (is_some-named names (item_part word)) ∙ ap is_some one.named in
    let first : is_among (take primary names) (item_part word) ≡ nat_lt one.item primary = ap (is_among (take primary names)) (sym at.1) ∙ among_first names primary one.item differ at.0 in
    let bytes = (and_parts (not (length word == 0)) (list_all is_inner word) inner).1 in
    and_from (is_among names (item_part word)) (not (has_colon word) || (is_name (colour_part word) && not (is_among (take primary names) (item_part word)))) among
    ((elim (has_colon word) as (λ b. (b && nat_lt one.item primary) ≡ false → is_bad_colour b (item_part word) (colour_part word) ≡ false → (not b || (is_name (colour_part word) && not (is_among (take primary names) (item_part word)))) ≡ true) [
      | false ↦ λ plain good. refl
      | true ↦ λ plain good.
          and_from (is_name (colour_part word)) (not (is_among (take primary names) (item_part word)))
          (colour_is_name (item_part word) (colour_part word) one.tests.0 good (colour_inner word bytes))
          (not_from_false (is_among (take primary names) (item_part word)) (first ∙ plain))
    ]) one.plain one.tests.1.1.0)

-- ---- a line

-- what words of an option add to the items before them, where they are read
pub record ReadsOption (names : List (List ℕ)) (primary : ℕ) (items : List ℕ) (words : List (List ℕ)) (read : List ℕ) : Type 0 where
  pub whole : names_of names read ≡ names_of names items ++ map item_part words
  pub occur : names_differ names ≡ true → list_all is_word words ≡ true → list_all (is_occurrence names (take primary names)) words ≡ true
  pub below : are_below (length names) items ≡ true → are_below (length names) read ≡ true
  pub distinct : is_distinct items ≡ true → is_distinct read ≡ true
  pub differ : names_differ names ≡ true → are_below (length names) items ≡ true → names_differ (names_of names items) ≡ true → names_differ (names_of names read) ≡ true

pub names_of-push : (names : List (List ℕ)) (items read : List ℕ) (item : ℕ) (name : List ℕ) → read ≡ items ++ item ∷ [] → get_or names item [] ≡ name → names_of names read ≡ names_of names items ++ name ∷ []
names_of-push names items read item name e same = rw (e, map-append (λ i. get_or names i []) items (item ∷ []), same) refl

option_more : (line : ℕ) (names : List (List ℕ)) (primary : ℕ) (items : List ℕ) (word : List ℕ) (words : List (List ℕ)) (more read : List ℕ) → ReadsWord line names primary items word more → ReadsOption names primary more words read → ReadsOption names primary items (word ∷ words) read
option_more line names primary items word words more read one rest =
    let at = named_at names (item_part word) one.item one.named in
    let names_more = names_of-push names items more one.item (item_part word) one.whole at.1 in
    record {
      whole = rest.whole ∙ rw names_more (append_assoc (names_of names items) (item_part word ∷ []) (map item_part words));
      occur = λ differ each.
          let parts = and_parts (is_word word) (list_all is_word words) each in
          and_from (is_occurrence names (take primary names) word) (list_all (is_occurrence names (take primary names)) words) (word_occurs line names primary items word more differ parts.0 one) (rest.occur differ parts.1);
      below = λ h. rest.below (rw one.whole (are_below-push (length names) items one.item h at.0));
      distinct = λ h. rest.distinct (rw one.whole (is_distinct-push items one.item h one.fresh));
      differ = λ differ below h.
          rest.differ differ (rw one.whole (are_below-push (length names) items one.item below at.0))
          (rw names_more (names_differ-push (names_of names items) (item_part word) h (ap (is_among (names_of names items)) (sym at.1) ∙ same_item names items one.item differ below at.0 ∙ one.fresh)));
    }

pub option_read : (line : ℕ) (names : List (List ℕ)) (primary : ℕ) (items : List ℕ) (words : List (List ℕ)) (read : List ℕ) → option_from line names primary items words ≡ Ok read → ReadsOption names primary items words read
unfolding option_from
option_read line names primary items [] read h =
    let same : items ≡ read = cc in
    record {
      whole = rw (← same) (sym (append-nil (names_of names items)));
      occur = λ differ each. refl;
      below = λ g. rw (← same) g;
      distinct = λ g. rw (← same) g;
      differ = λ d b g. rw (← same) g;
    }
option_read line names primary items (word ∷ words) read h =
    (elim (option_item_at line names primary items word) as (λ r. option_item_at line names primary items word ≡ r → (r >>= (λ more. option_from line names primary more words)) ≡ Ok read → ReadsOption names primary items (word ∷ words) read) [
      | Ok more ↦ λ e g. option_more line names primary items word words more read (word_read line names primary items word more e) (option_read line names primary more words read g)
      | Err fault ↦ λ e g. absurd (cc)
    ]) refl h
