-- Lines have no byte 10, and words no white space.
use Rattle.std.proofs.Common.{◌≡◌, ℕ, ◌+◌, List, [], ◌∷◌, length, Bool, true, false, not, ◌&&◌, ◌||◌, ◌==◌, cond, refl, filter, map}
use Rattle.std.specs.List.{list_all, slice_split, onto_first, enumerate_from}
use Rattle.std.proofs.lemmas.Bool.{and_parts, and_from, not_from_false, or_from, not-true}
use Rattle.dlx_reader.specs.Content.{is_content, content_from, content_of}
use Rattle.dlx_reader.specs.Lines.{is_white, lines_of, words_of}
use Rattle.dlx_reader.specs.Content.{is_word}
use Rattle.dlx_reader.proofs.Lawful.{is_inner}

-- the pieces between the elements that pass p: their elements pass q and not p, so they pass r
pub split_all : {X : Type 0} (p q r : X → Bool) → ((x : X) → q x ≡ true → p x ≡ false → r x ≡ true) → (xs : List X) → list_all q xs ≡ true → list_all (list_all r) (slice_split p xs) ≡ true
split_all p q r both [] h = refl
split_all {X} p q r both (x ∷ xs) h =
    let parts = and_parts (q x) (list_all q xs) h in
    let rest = split_all p q r both xs parts.1 in
    (elim (p x) as (λ b. p x ≡ b → list_all (list_all r) (cond b ([] ∷ slice_split p xs) (onto_first x (slice_split p xs))) ≡ true) [
      | true ↦ λ e. rest
      | false ↦ λ e. onto (slice_split p xs) (both x parts.0 e) rest
    ]) refl
  where
    onto : (pieces : List (List X)) → r x ≡ true → list_all (list_all r) pieces ≡ true → list_all (list_all r) (onto_first x pieces) ≡ true
    onto [] one all = and_from (r x && true) true (and_from (r x) true one refl) refl
    onto (piece ∷ pieces) one all =
        let two = and_parts (list_all r piece) (list_all (list_all r) pieces) all in
        and_from (r x && list_all r piece) (list_all (list_all r) pieces) (and_from (r x) (list_all r piece) one two.0) two.1

-- what is kept passes both
pub filter_all : {X : Type 0} (p r : X → Bool) (xs : List X) → list_all r xs ≡ true → list_all (λ x. p x && r x) (filter p xs) ≡ true
filter_all p r [] h = refl
filter_all p r (x ∷ xs) h =
    let parts = and_parts (r x) (list_all r xs) h in
    let rest = filter_all p r xs parts.1 in
    (elim (p x) as (λ b. p x ≡ b → list_all (λ y. p y && r y) (cond b (x ∷ filter p xs) (filter p xs)) ≡ true) [
      | true ↦ λ e. and_from (p x && r x) (list_all (λ y. p y && r y) (filter p xs)) (and_from (p x) (r x) e parts.0) rest
      | false ↦ λ e. rest
    ]) refl

pub all_pass : {X : Type 0} (xs : List X) → list_all (λ x. true) xs ≡ true
all_pass [] = refl
all_pass (x ∷ xs) = all_pass xs

pub lines_end : (text : List ℕ) → list_all (list_all (λ byte. not (byte == 10))) (lines_of text) ≡ true
lines_end text = split_all (λ byte. byte == 10) (λ byte. true) (λ byte. not (byte == 10)) (λ byte any other. not_from_false (byte == 10) other) text (all_pass text)

pub line_words : (line : List ℕ) → list_all (λ byte. not (byte == 10)) line ≡ true → list_all is_word (words_of line) ≡ true
line_words line h =
    filter_all (λ word. not (length word == 0)) (list_all is_inner) (slice_split is_white line)
    (split_all is_white (λ byte. not (byte == 10)) is_inner (λ byte same other. not_from_false (is_white byte || byte == 10) (or_from (is_white byte) (byte == 10) other (not-true (byte == 10) same))) line h)

numbered_words : (number : ℕ) (lines : List (List ℕ)) → list_all (list_all (λ byte. not (byte == 10))) lines ≡ true → list_all (λ line. list_all is_word line.1) (enumerate_from number (map words_of lines)) ≡ true
numbered_words number [] h = refl
numbered_words number (line ∷ lines) h =
    let parts = and_parts (list_all (λ byte. not (byte == 10)) line) (list_all (list_all (λ byte. not (byte == 10))) lines) h in
    and_from (list_all is_word (words_of line)) (list_all (λ l. list_all is_word l.1) (enumerate_from (number + 1) (map words_of lines))) (line_words line parts.0) (numbered_words (number + 1) lines parts.1)

-- each line that says something has words, and the first does not begin with a bar
pub content_words : (text : List ℕ) → list_all (λ line. is_content line.1 && list_all is_word line.1) (content_of text) ≡ true
unfolding content_from
content_words text = filter_all (λ (line : ℕ × List (List ℕ)). is_content line.1) (λ line. list_all is_word line.1) (enumerate_from 1 (map words_of (lines_of text))) (numbered_words 1 (lines_of text) (lines_end text))

-- of lines that say something, each has words
pub each_words : (lines : List (ℕ × List (List ℕ))) → list_all (λ line. is_content line.1 && list_all is_word line.1) lines ≡ true → list_all (λ line. list_all is_word line.1) lines ≡ true
each_words [] h = refl
each_words (line ∷ lines) h =
    let parts = and_parts (is_content line.1 && list_all is_word line.1) (list_all (λ (l : ℕ × List (List ℕ)). is_content l.1 && list_all is_word l.1) lines) h in
    and_from (list_all is_word line.1) (list_all (λ (l : ℕ × List (List ℕ)). list_all is_word l.1) lines) (and_parts (is_content line.1) (list_all is_word line.1) parts.0).1 (each_words lines parts.1)

-- the item line has words, of which the first does not begin with a bar, and so have the lines behind it
pub record FirstWords (words : List (List ℕ)) (others : List (ℕ × List (List ℕ))) : Type 0 where
  pub content : is_content words ≡ true
  pub words_are : list_all is_word words ≡ true
  pub others_are : list_all (λ line. list_all is_word line.1) others ≡ true

pub first_words : (text : List ℕ) (lines : List (List ℕ)) (number : ℕ) (words : List (List ℕ)) (others : List (ℕ × List (List ℕ))) → lines ≡ lines_of text → content_from 1 lines ≡ (number, words) ∷ others → FirstWords words others
first_words text lines number words others same first =
    let all = rw (← same, first) at (content_words text) in
    let parts = and_parts (is_content words && list_all is_word words) (list_all (λ line. is_content line.1 && list_all is_word line.1) others) all in
    let own = and_parts (is_content words) (list_all is_word words) parts.0 in
    record { content = own.0; words_are = own.1; others_are = each_words others parts.1 }
