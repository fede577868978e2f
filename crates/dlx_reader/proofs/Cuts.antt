-- The first word of a line and the first line of a text, cut off.
use Rattle.std.proofs.Common.{◌≡◌, ℕ, zero, suc, ◌+◌, ◌-◌, ◌<◌, ◌≤◌, List, [], ◌∷◌, length, take, drop, get_or, Bool, true, false, not, ◌==◌, nat_lt, Some, None, cond, filter, refl, sym, ap, subst, ◌∙◌, arith, rules, length-drop, drop-cons, add-one}
use Rattle.std.specs.List.{position, position_or_len, slice_split}
use Rattle.std.proofs.lemmas.Bool.{ltb-true}
use Rattle.std.proofs.lemmas.Bool.Decides.{nat_tests}
use Rattle.std.proofs.lemmas.List.{nil_from_length, length-take, take_all}
use Rattle.std.proofs.lemmas.List.Splits.{slice_split_none, slice_split_first, slice_split-cons_yes}
use Rattle.std.proofs.lemmas.List.Sums.{fails_before_first, passes_at_first, prefix_len-le-length}
use Rattle.dlx_reader.specs.Lines.{is_white, lines_of, words_of}

-- what a slice from a place on has
pub to_end : (text : List ℕ) (place : ℕ) → take (length text - place) (drop place text) ≡ drop place text
to_end text place = take_all (length text - place) (drop place text) (omega (arith, length-drop place text))

-- ---- white space before a word

-- whether the byte stands in a word
abbrev pub is_inner_byte : ℕ → Bool
is_inner_byte byte = not (is_white byte)

white_again : (b : Bool) → not b ≡ false → b ≡ true
white_again true e = refl
white_again false e = sym e

-- white space at the beginning of a line is in no word
words_behind : (byte : ℕ) (line : List ℕ) → is_white byte ≡ true → words_of (byte ∷ line) ≡ words_of line
words_behind byte line white = ap (filter (λ word. not (length word == 0))) (slice_split-cons_yes is_white byte line white)

words_from : (line : List ℕ) (start : ℕ) → start ≤ length line → ((k : ℕ) → k < start → is_white (get_or line k 0) ≡ true) → words_of line ≡ words_of (drop start line)
words_from line zero inside white = refl
words_from [] (suc start) inside white = refl
words_from (byte ∷ line) (suc start) inside white = words_behind byte line (white 0 (omega arith)) ∙ words_from line start (omega arith) (λ k h. white (suc k) (omega arith))

-- ---- the first place at which a test holds

pub place_some : {X : Type 0} (p : X → Bool) (xs : List X) (i : ℕ) → position p xs ≡ Some i → (position_or_len p xs ≡ i) × (i < length xs)
place_some p xs i e =
    (elim (nat_lt (position_or_len p xs) (length xs)) as (λ b. nat_lt (position_or_len p xs) (length xs) ≡ b → cond b (Some (position_or_len p xs)) None ≡ Some i → (position_or_len p xs ≡ i) × (i < length xs)) [
      | true ↦ λ test some. let same : position_or_len p xs ≡ i = cc in (same, omega (arith, same, ltb-true (position_or_len p xs) (length xs) test))
      | false ↦ λ test some. let clash : None ≡ Some i = some in cc
    ]) refl e

pub place_none : {X : Type 0} (p : X → Bool) (xs : List X) → position p xs ≡ None → length xs ≤ position_or_len p xs
place_none p xs e =
    (elim (nat_lt (position_or_len p xs) (length xs)) as (λ b. nat_lt (position_or_len p xs) (length xs) ≡ b → cond b (Some (position_or_len p xs)) None ≡ None → length xs ≤ position_or_len p xs) [
      | true ↦ λ test some. let clash : Some (position_or_len p xs) ≡ None = some in cc
      | false ↦ λ test some. grind (arith, nat_tests, test)
    ]) refl e

-- ---- the first word

words_trimmed : (line : List ℕ) → words_of line ≡ words_of (drop (position_or_len is_inner_byte line) line)
words_trimmed line = words_from line (position_or_len is_inner_byte line) (prefix_len-le-length (λ byte. not (is_inner_byte byte)) line) (λ k h. white_again (is_white (get_or line k 0)) (fails_before_first is_inner_byte line k 0 h))

-- no word stands in white space alone
pub words_none : (line : List ℕ) → position is_inner_byte line ≡ None → words_of line ≡ []
words_none line none =
    let start = position_or_len is_inner_byte line in
    let over : length (drop start line) ≡ 0 = omega (arith, length-drop start line, place_none is_inner_byte line none) in
    words_trimmed line ∙ ap words_of (nil_from_length (drop start line) over)

kept_first : (word : List ℕ) (pieces : List (List ℕ)) → 0 < length word → filter (λ piece. not (length piece == 0)) (word ∷ pieces) ≡ word ∷ filter (λ piece. not (length piece == 0)) pieces
kept_first word pieces some = let test : length word == 0 ≡ false = search (rules, some) in rw test refl

-- what stands from the first byte of a word on begins with that word
word_begins : (line : List ℕ) (start : ℕ) → position is_inner_byte line ≡ Some start → 0 < position_or_len is_white (drop start line)
word_begins line start found =
    let first = place_some is_inner_byte line start found in
    let inside : position_or_len is_inner_byte line < length line = omega (arith, first.0, first.1) in
    let inner : is_inner_byte (get_or line start 0) ≡ true = ap (λ k. is_inner_byte (get_or line k 0)) (sym first.0) ∙ passes_at_first is_inner_byte line 0 inside in
    let P : List ℕ → Type 0 = λ text. 0 < position_or_len is_white text in
    let Q : Bool → Type 0 = λ b. 0 < cond b (1 + position_or_len is_white (drop (suc start) line)) 0 in
    subst P (sym (drop-cons line start 0 first.1)) (subst Q (sym inner) (omega arith))

from_start : (line : List ℕ) (start : ℕ) → position is_inner_byte line ≡ Some start → words_of line ≡ words_of (drop start line)
from_start line start found = words_trimmed line ∙ ap (λ k. words_of (drop k line)) (place_some is_inner_byte line start found).0

-- a line whose first word is its last, with nothing behind it
pub words_last : (line : List ℕ) (start : ℕ) → position is_inner_byte line ≡ Some start → position is_white (drop start line) ≡ None → words_of line ≡ drop start line ∷ []
words_last line start found none =
    let word = drop start line in
    let over = place_none is_white word none in
    let most = prefix_len-le-length (λ byte. not (is_white byte)) word in
    let long : 0 < length word = omega (arith, word_begins line start found, most) in
    from_start line start found
    ∙ ap (filter (λ piece. not (length piece == 0))) (slice_split_none is_white word (λ k d h. fails_before_first is_white word k d (omega (arith, over))))
    ∙ kept_first word [] long

-- a line with white space behind its first word
pub words_on : (line : List ℕ) (start end : ℕ) → position is_inner_byte line ≡ Some start → position is_white (drop start line) ≡ Some end
    → (words_of line ≡ take end (drop start line) ∷ words_of (drop end (drop start line))) × (length (drop end (drop start line)) < length line)
words_on line start end found ends =
    let word = drop start line in
    let here = place_some is_white word end ends in
    let begins = word_begins line start found in
    let inside : position_or_len is_white word < length word = omega (arith, here.0, here.1) in
    let long : 0 < length (take (position_or_len is_white word) word) = omega (arith, begins, length-take (position_or_len is_white word) word) in
    let cut : drop (position_or_len is_white word) word ≡ get_or word (position_or_len is_white word) 0 ∷ drop (position_or_len is_white word + 1) word = rw (add-one, drop-cons word (position_or_len is_white word) 0) refl in
    let P : ℕ → Type 0 = λ n. words_of line ≡ take n word ∷ words_of (drop n word) in (
      subst P here.0 (
          from_start line start found
          ∙ ap (filter (λ piece. not (length piece == 0))) (slice_split_first is_white word 0 inside)
          ∙ kept_first (take (position_or_len is_white word) word) (slice_split is_white (drop (position_or_len is_white word + 1) word)) long
          ∙ ap (λ rest. take (position_or_len is_white word) word ∷ rest)
          (sym (ap words_of cut ∙ words_behind (get_or word (position_or_len is_white word) 0) (drop (position_or_len is_white word + 1) word) (passes_at_first is_white word 0 inside)))
          ),
      omega (arith, here.0, here.1, begins, length-drop end word, length-drop start line),
    )

-- ---- the first line

-- a text of one line that nothing ends
pub lines_last : (text : List ℕ) → position (λ byte. byte == 10) text ≡ None → lines_of text ≡ text ∷ []
lines_last text none =
    let over = place_none (λ byte. byte == 10) text none in
    slice_split_none (λ byte. byte == 10) text (λ k d h. fails_before_first (λ byte. byte == 10) text k d (omega (arith, over)))

-- a line that ends, and those behind it
pub lines_on : (text : List ℕ) (end : ℕ) → position (λ byte. byte == 10) text ≡ Some end → lines_of text ≡ take end text ∷ lines_of (drop (end + 1) text)
lines_on text end found =
    let here = place_some (λ byte. byte == 10) text end found in
    let P : ℕ → Type 0 = λ n. lines_of text ≡ take n text ∷ lines_of (drop (n + 1) text) in
    subst P here.0 (slice_split_first (λ byte. byte == 10) text 0 (omega (arith, here.0, here.1)))
