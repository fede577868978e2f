-- The parts of an option's word.
use Rattle.std.proofs.Common.{◌≡◌, ℕ, zero, suc, ◌+◌, ◌<◌, List, [], ◌∷◌, ◌++◌, length, take, drop, get_or, true, false, ◌||◌, ◌==◌, Some, None, cond, refl, sym, ap, ◌∙◌, arith}
use Rattle.std.specs.List.{position, list_all, list_any}
use Rattle.std.proofs.lemmas.Bool.{and_parts, or_parts, or_from, eqb-true, true≢false}
use Rattle.std.proofs.lemmas.List.Elements.{All-from_get_or}
use Rattle.std.proofs.lemmas.List.Folds.{list_any_none}
use Rattle.std.proofs.lemmas.List.Quantifiers.{position-Some}
use Rattle.std.proofs.lemmas.List.Sums.{fails_before_first}
use Rattle.dlx_reader.specs.Faults.{is_illegal}
use Rattle.dlx_reader.specs.Occurrences.{has_colon, item_part, colour_part}
use Rattle.dlx_reader.proofs.Cuts.{place_none}
use Rattle.dlx_reader.proofs.Lawful.{is_inner}

-- ---- a word without a colon

pub no_colon : (word : List ℕ) → has_colon word ≡ false → (item_part word ≡ word) × (colour_part word ≡ [])
no_colon [] h = (refl, refl)
no_colon (byte ∷ bytes) h =
    let parts = or_parts (byte == 58) (has_colon bytes) h in
    let rest = no_colon bytes parts.1 in
    rw parts.0 (ap (λ part. byte ∷ part) rest.0, rest.1)

-- a word without a byte that is in no name
pub record PlainWord (word : List ℕ) : Type 0 where
  pub colon : has_colon word ≡ false
  pub item : item_part word ≡ word
  pub colour : colour_part word ≡ []

legal_colon : (word : List ℕ) → list_any is_illegal word ≡ false → has_colon word ≡ false
legal_colon [] h = refl
legal_colon (byte ∷ bytes) h =
    let parts = or_parts (is_illegal byte) (list_any is_illegal bytes) h in
    let front = or_parts (byte == 0 || byte == 58) (byte == 124) parts.0 in
    or_from (byte == 58) (has_colon bytes) (or_parts (byte == 0) (byte == 58) front.0).1 (legal_colon bytes parts.1)

pub plain_word : (word : List ℕ) → list_any is_illegal word ≡ false → PlainWord word
plain_word word legal =
    let colon = legal_colon word legal in
    let parts = no_colon word colon in
    record { colon = colon; item = parts.0; colour = parts.1 }

-- where no colon is found
pub colon_none : (word : List ℕ) → position (λ byte. byte == 58) word ≡ None → has_colon word ≡ false
colon_none word none =
    list_any_none (λ byte. byte == 58) word
    (All-from_get_or (λ byte. (byte == 58) ≡ false) word 0 (λ k inside. fails_before_first (λ byte. byte == 58) word k 0 (omega (arith, inside, place_none (λ byte. byte == 58) word none))))

-- ---- a word with a colon

-- what stands before the first colon and behind it
pub record PartsAt (word : List ℕ) (place : ℕ) : Type 0 where
  pub colon : has_colon word ≡ true
  pub item : item_part word ≡ take place word
  pub colour : colour_part word ≡ drop (place + 1) word

parts_at : (word : List ℕ) (place : ℕ) → place < length word → (get_or word place 0 == 58) ≡ true → ((k : ℕ) → k < place → (get_or word k 0 == 58) ≡ false) → PartsAt word place
parts_at [] place inside here before = absurd (omega arith)
parts_at (byte ∷ bytes) zero inside here before = let is : (byte == 58) ≡ true = here in record { colon = rw is refl; item = rw is refl; colour = rw is refl }
parts_at (byte ∷ bytes) (suc place) inside here before =
    let other : (byte == 58) ≡ false = before 0 (omega arith) in
    let rest = parts_at bytes place (omega arith) here (λ k h. before (suc k) (omega arith)) in
    let next : suc (place + 1) ≡ suc place + 1 = omega arith in
    record {
      colon = rw other rest.colon;
      item = rw other (ap (λ part. byte ∷ part) rest.item);
      colour = rw other (rest.colour ∙ ap (λ n. drop n (byte ∷ bytes)) next);
    }

-- where a colon is found
pub colon_some : (word : List ℕ) (place : ℕ) → position (λ byte. byte == 58) word ≡ Some place → PartsAt word place
colon_some word place found = let at = position-Some (λ byte. byte == 58) word place 0 found in parts_at word place at.0 at.1 at.2

-- ---- a word and its parts

-- a word is its parts, with the colon between where there is one
pub word_parts : (word : List ℕ) → word ≡ item_part word ++ cond (has_colon word) (58 ∷ colour_part word) []
word_parts [] = refl
word_parts (byte ∷ bytes) =
    (elim (byte == 58) as (λ b. (byte == 58) ≡ b → byte ∷ bytes ≡ cond b [] (byte ∷ item_part bytes) ++ cond (b || has_colon bytes) (58 ∷ cond b bytes (colour_part bytes)) []) [
      | true ↦ λ colon. ap (λ first. first ∷ bytes) (eqb-true byte 58 colon)
      | false ↦ λ other. ap (λ rest. byte ∷ rest) (word_parts bytes)
    ]) refl

-- words with the same parts are the same
pub same_parts : (word other : List ℕ) → item_part word ≡ item_part other → has_colon word ≡ has_colon other → colour_part word ≡ colour_part other → word ≡ other
same_parts word other item colon colour = word_parts word ∙ rw (item, colon, colour) (sym (word_parts other))

-- the parts of a name with a colon and a colour behind it
pub record Joined (name behind word : List ℕ) : Type 0 where
  pub colon : has_colon word ≡ true
  pub item : item_part word ≡ name
  pub colour : colour_part word ≡ behind

pub joined : (name colour : List ℕ) → has_colon name ≡ false → Joined name colour (name ++ 58 ∷ colour)
joined [] colour h = record { colon = refl; item = refl; colour = refl }
joined (byte ∷ bytes) colour h =
    let parts = or_parts (byte == 58) (has_colon bytes) h in
    let rest = joined bytes colour parts.1 in
    record { colon = rw parts.0 rest.colon; item = rw parts.0 (ap (λ part. byte ∷ part) rest.item); colour = rw parts.0 rest.colour }

-- what stands behind a colon has the bytes of a word
pub colour_inner : (word : List ℕ) → list_all is_inner word ≡ true → list_all is_inner (colour_part word) ≡ true
colour_inner [] h = refl
colour_inner (byte ∷ bytes) h =
    let parts = and_parts (is_inner byte) (list_all is_inner bytes) h in
    elim (byte == 58) as (λ b. list_all is_inner (cond b bytes (colour_part bytes)) ≡ true) [ true ↦ parts.1 | false ↦ colour_inner bytes parts.1 ]

-- a word with a colour has a colon
pub some_colour : (word : List ℕ) → (length (colour_part word) == 0) ≡ false → has_colon word ≡ true
some_colour word some =
    (elim (has_colon word) as (λ b. has_colon word ≡ b → has_colon word ≡ true) [
      | true ↦ λ colon. colon
      | false ↦ λ none. let empty : (length (colour_part word) == 0) ≡ true = ap (λ part. length part == 0) (no_colon word none).1 in absurd (true≢false (sym empty ∙ some))
    ]) refl
