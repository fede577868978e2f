-- The head of an answer's text and the lines behind it, where the first line that isn't blank is known.
use Rattle.std.proofs.Common.{◌≡◌, ℕ, List, [], ◌∷◌, drop, get_or, ap}
use Rattle.dlx_reader.specs.Answers.{worded_lines, head_words, further_lines}
use Rattle.dlx_reader.specs.Lines.{lines_of}

pub head_is : (text : List ℕ) (number : ℕ) (words : List (List ℕ)) (others : List (ℕ × List (List ℕ))) → worded_lines 1 (lines_of text) ≡ (number, words) ∷ others → head_words text ≡ words
head_is text number words others is = ap (λ (ls : List (ℕ × List (List ℕ))). (get_or ls 0 (0, [])).1) is

pub further_are : (text : List ℕ) (number : ℕ) (words : List (List ℕ)) (others : List (ℕ × List (List ℕ))) → worded_lines 1 (lines_of text) ≡ (number, words) ∷ others → further_lines text ≡ others
further_are text number words others is = ap (λ (ls : List (ℕ × List (List ℕ))). drop 1 ls) is
