-- The lines and words of the text of an answer.
use Rattle.std.proofs.Common.{◌≡◌, ℕ, ◌+◌, ◌<◌, List, [], ◌∷◌, ◌++◌, length, map, true, false, not, ◌==◌, ◌∙◌, ap, refl, arith, All, filter, append_assoc, codes, get_or, ◌^◌}
use Rattle.std.specs.Fmt.{decimal}
use Rattle.std.proofs.lemmas.Fmt.{decimal_nonempty, digits_decimal}
use Rattle.std.proofs.lemmas.Bool.{ne_eqb, not-true}
use Rattle.std.proofs.lemmas.List.Elements.{All-nil, All-cons, All-head, All-tail, All-weaker, All-append, All-from_get_or}
use Rattle.std.proofs.lemmas.List.Splits.{slice_split_none, slice_split_at}
use Rattle.std.specs.List.{slice_split, join_with_byte, flat_map, enumerate_from}
use Rattle.cover_problem.specs.Problem.{Problem}
use Rattle.dlx_reader.specs.Lines.{is_white, lines_of, words_of}
use Rattle.dlx_reader.specs.Writing.{occurrences_of, option_words, words_text, option_text, cover_text}
use Rattle.dlx_reader.specs.Answers.{worded_lines}
use Rattle.dlx_reader.proofs.NameBytes.{IsPlain, IsWord, All-from_test, plain_digit, word_from_name}
use Rattle.dlx_reader.proofs.AnswerCounts.{numerals, digit_in_range}

no_white : (xs : List ℕ) → All IsPlain xs → All (λ b. is_white b ≡ false) xs
no_white xs all = All-weaker IsPlain (λ b. is_white b ≡ false) (λ b plain. plain.no_white) xs all

no_end : (xs : List ℕ) → All IsPlain xs → All (λ b. (b == 10) ≡ false) xs
no_end xs all = All-weaker IsPlain (λ b. (b == 10) ≡ false) (λ b plain. plain.no_end) xs all

-- ---- the words of a line

-- a word is kept
kept : (word : List ℕ) (words : List (List ℕ)) → 0 < length word → filter (λ w. not (length w == 0)) (word ∷ words) ≡ word ∷ filter (λ w. not (length w == 0)) words
kept word words some = let long : (length word == 0) ≡ false = ne_eqb (length word) 0 (λ same. omega arith) in rw long refl

pub words_of-one : (word : List ℕ) → IsWord word → words_of word ≡ word ∷ []
words_of-one word is = ap (filter (λ w. not (length w == 0))) (slice_split_none is_white word (no_white word is.plain)) ∙ kept word [] is.some

pub words_of-more : (word rest : List ℕ) → IsWord word → words_of (word ++ 32 ∷ rest) ≡ word ∷ words_of rest
words_of-more word rest is = ap (filter (λ w. not (length w == 0))) (slice_split_at is_white word 32 rest (no_white word is.plain) refl) ∙ kept word (slice_split is_white rest) is.some

pub words_of-join : (words : List (List ℕ)) → All IsWord words → words_of (join_with_byte 32 words) ≡ words
words_of-join [] all = refl
words_of-join (w ∷ []) all = words_of-one w (All-head IsWord w [] all)
words_of-join (w ∷ x ∷ ws) all =
    words_of-more w (join_with_byte 32 (x ∷ ws)) (All-head IsWord w (x ∷ ws) all) ∙ ap (λ words. w ∷ words) (words_of-join (x ∷ ws) (All-tail IsWord w (x ∷ ws) all))

pub no_end-join : (words : List (List ℕ)) → All IsWord words → All (λ b. (b == 10) ≡ false) (join_with_byte 32 words)
no_end-join [] all = All-nil (λ b. (b == 10) ≡ false)
no_end-join (w ∷ []) all = no_end w (All-head IsWord w [] all).plain
no_end-join (w ∷ x ∷ ws) all =
    All-append (λ b. (b == 10) ≡ false) w (32 ∷ join_with_byte 32 (x ∷ ws)) (no_end w (All-head IsWord w (x ∷ ws) all).plain)
    (All-cons (λ b. (b == 10) ≡ false) 32 (join_with_byte 32 (x ∷ ws)) refl (no_end-join (x ∷ ws) (All-tail IsWord w (x ∷ ws) all)))

-- ---- the lines of a text

-- the line of an option, without its end
abbrev pub line_text : Problem → ℕ → List ℕ
line_text p o = words_text p (occurrences_of p o)

pub lines_of-more : (line rest : List ℕ) → All (λ b. (b == 10) ≡ false) line → lines_of (line ++ 10 ∷ rest) ≡ line ∷ lines_of rest
lines_of-more line rest all = slice_split_at (λ b. b == 10) line 10 rest all refl

pub lines_of-options : (p : Problem) (os : List ℕ) → All (λ o. All IsWord (option_words p o)) os → lines_of (flat_map (option_text p) os) ≡ map (line_text p) os ++ [] ∷ []
lines_of-options p [] all = refl
lines_of-options p (o ∷ os) all =
    let words = All-head (λ o. All IsWord (option_words p o)) o os all in
    let rest = flat_map (option_text p) os in
    ap lines_of (append_assoc (line_text p o) (10 ∷ []) rest) ∙ lines_of-more (line_text p o) rest (no_end-join (option_words p o) words)
    ∙ ap (λ lines. line_text p o ∷ lines) (lines_of-options p os (All-tail (λ o. All IsWord (option_words p o)) o os all))

-- ---- the lines that aren't blank

worded_lines-more : (n : ℕ) (line : List ℕ) (lines words : List (List ℕ)) → words_of line ≡ words → 0 < length words → worded_lines n (line ∷ lines) ≡ (n, words) ∷ worded_lines (n + 1) lines
unfolding worded_lines
worded_lines-more n line lines words is some =
    let long : (length words == 0) ≡ false = ne_eqb (length words) 0 (λ same. omega arith) in
    rw (is, long) refl

worded_lines-blank : (n : ℕ) → worded_lines n ([] ∷ []) ≡ []
unfolding worded_lines
worded_lines-blank n = refl

pub worded_lines-options : (p : Problem) (n : ℕ) (os : List ℕ) → All (λ o. All IsWord (option_words p o)) os → All (λ o. 0 < length (option_words p o)) os
    → worded_lines n (map (line_text p) os ++ [] ∷ []) ≡ enumerate_from n (map (option_words p) os)
worded_lines-options p n [] words some = worded_lines-blank n
worded_lines-options p n (o ∷ os) words some =
    let here = words_of-join (option_words p o) (All-head (λ o. All IsWord (option_words p o)) o os words) in
    worded_lines-more n (line_text p o) (map (line_text p) os ++ [] ∷ []) (option_words p o) here (All-head (λ o. 0 < length (option_words p o)) o os some)
    ∙ ap (λ lines. (n, option_words p o) ∷ lines) (worded_lines-options p (n + 1) os (All-tail (λ o. All IsWord (option_words p o)) o os words) (All-tail (λ o. 0 < length (option_words p o)) o os some))

-- ---- the text of a cover

digits_word : (k : ℕ) → k < 2 ^ 64 → IsWord (decimal k)
digits_word k small =
    let digits = digits_decimal numerals k small in
    record {
      some = decimal_nonempty k small;
      plain = All-from_get_or IsPlain (decimal k) 0 (λ i inside. plain_digit (get_or (decimal k) i 0) (digit_in_range (decimal k) i digits inside));
    }

no_end_in_cover : All (λ b. (b == 10) ≡ false) (codes "cover ")
no_end_in_cover = All-weaker (λ b. not (b == 10) ≡ true) (λ b. (b == 10) ≡ false) (λ b h. not-true (b == 10) h) (codes "cover ") (All-from_test (λ b. not (b == 10)) (codes "cover ") refl)

-- the lines of the text of a cover, each with its words
pub worded_lines-cover : (p : Problem) (os : List ℕ) → length os < 2 ^ 64 → All (λ o. All IsWord (option_words p o)) os → All (λ o. 0 < length (option_words p o)) os
    → worded_lines 1 (lines_of (cover_text p os)) ≡ (1, codes "cover" ∷ decimal (length os) ∷ []) ∷ enumerate_from 2 (map (option_words p) os)
worded_lines-cover p os small words some =
    let digits = digits_word (length os) small in
    let line = codes "cover " ++ decimal (length os) in
    let lines = lines_of-more line (flat_map (option_text p) os) (All-append (λ b. (b == 10) ≡ false) (codes "cover ") (decimal (length os)) no_end_in_cover (no_end (decimal (length os)) digits.plain))
    ∙ ap (λ ls. line ∷ ls) (lines_of-options p os words) in
    let head : words_of line ≡ codes "cover" ∷ decimal (length os) ∷ [] =
    words_of-more (codes "cover") (decimal (length os)) (word_from_name (codes "cover") refl) ∙ ap (λ ws. codes "cover" ∷ ws) (words_of-one (decimal (length os)) digits) in
    ap (worded_lines 1) lines ∙ worded_lines-more 1 line (map (line_text p) os ++ [] ∷ []) (codes "cover" ∷ decimal (length os) ∷ []) head (omega arith)
    ∙ ap (λ ls. (1, codes "cover" ∷ decimal (length os) ∷ []) ∷ ls) (worded_lines-options p 2 os words some)

-- the text of `none`
pub worded_lines-none : worded_lines 1 (lines_of (codes "none\n")) ≡ (1, codes "none" ∷ []) ∷ []
unfolding worded_lines
worded_lines-none = refl
