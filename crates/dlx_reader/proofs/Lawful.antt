-- Bytes of words and of names.
use Rattle.std.proofs.Common.{◌≡◌, ℕ, List, [], ◌∷◌, length, Bool, true, false, nat_lt, nat_le, ◌≢◌, not, ◌&&◌, ◌||◌, ◌==◌, cond, refl, sym, arith}
use Rattle.std.specs.List.{list_any, list_all}
use Rattle.std.proofs.lemmas.Bool.{and_parts, and_from, not-true, not_from_false, or_parts, ltb-false, le-leb, eqb-false, ne_eqb}
use Rattle.cover_problem.specs.Numbers.{is_in}
use Rattle.cover_problem.specs.Problem.{forbidden, is_name}
use Rattle.dlx_reader.specs.Faults.{is_illegal}
use Rattle.dlx_reader.specs.Items.{name_part}
use Rattle.dlx_reader.specs.Lines.{is_white}

-- whether the byte may stand in a word
abbrev pub is_inner : ℕ → Bool
is_inner byte = not (is_white byte || byte == 10)

-- a byte that may stand in a word, and is not illegal, may stand in a name
pub byte_allowed : (byte : ℕ) → is_illegal byte ≡ false → is_inner byte ≡ true → is_in forbidden byte ≡ false
byte_allowed byte legal inner =
    let colon = or_parts (byte == 0 || byte == 58) (byte == 124) legal in
    let zero_byte = or_parts (byte == 0) (byte == 58) colon.0 in
    let line_end = or_parts (is_white byte) (byte == 10) (not-true (is_white byte || byte == 10) inner) in
    let space = or_parts (byte == 9 || byte == 11 || byte == 12 || byte == 13) (byte == 32) line_end.0 in
    let return = or_parts (byte == 9 || byte == 11 || byte == 12) (byte == 13) space.0 in
    let feed = or_parts (byte == 9 || byte == 11) (byte == 12) return.0 in
    let tab = or_parts (byte == 9) (byte == 11) feed.0 in
    rw (flip byte 0 zero_byte.0, flip byte 9 tab.0, flip byte 10 line_end.1, flip byte 11 tab.1, flip byte 12 feed.1, flip byte 13 return.1, flip byte 32 space.1, flip byte 58 zero_byte.1, flip byte 124 colon.1) refl
  where
    flip : (a b : ℕ) → (a == b) ≡ false → (b == a) ≡ false
    flip a b h = ne_eqb b a (λ e. eqb-false a b h (sym e))

pub bytes_allowed : (name : List ℕ) → list_any is_illegal name ≡ false → list_all is_inner name ≡ true → list_all (λ byte. not (is_in forbidden byte)) name ≡ true
bytes_allowed [] legal inner = refl
bytes_allowed (byte ∷ bytes) legal inner =
    let first = or_parts (is_illegal byte) (list_any is_illegal bytes) legal in
    let rest = and_parts (is_inner byte) (list_all is_inner bytes) inner in
    and_from (not (is_in forbidden byte)) (list_all (λ b. not (is_in forbidden b)) bytes) (not_from_false (is_in forbidden byte) (byte_allowed byte first.0 rest.0)) (bytes_allowed bytes first.1 rest.1)

-- what follows a bar has such bytes too
pub part_inner : (word : List ℕ) → list_all is_inner word ≡ true → list_all is_inner (name_part word) ≡ true
part_inner [] h = refl
part_inner (byte ∷ bytes) h =
    elim (byte == 124) as (λ b. list_all is_inner (cond b bytes (byte ∷ bytes)) ≡ true) [
      | true ↦ (and_parts (is_inner byte) (list_all is_inner bytes) h).1
      | false ↦ h
    ]

-- a name that passed the tests
pub is_name_from : (name : List ℕ) → (length name == 0) ≡ false → list_any is_illegal name ≡ false → nat_lt 32 (length name) ≡ false → list_all is_inner name ≡ true → is_name name ≡ true
is_name_from name some legal short inner =
    let ne : length name ≢ 0 = eqb-false (length name) 0 some in
    and_from (nat_le 1 (length name) && nat_le (length name) 32) (list_all (λ b. not (is_in forbidden b)) name)
    (and_from (nat_le 1 (length name)) (nat_le (length name) 32) (le-leb 1 (length name) (omega arith)) (le-leb (length name) 32 (ltb-false 32 (length name) short)))
    (bytes_allowed name legal inner)
