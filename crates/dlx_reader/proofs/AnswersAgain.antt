-- What was written is read again.
use Rattle.std.proofs.Common.{◌≡◌, ℕ, ◌<◌, ◌^◌, List, [], ◌∷◌, length, get_or, drop, map, ◌∙◌, sym, ap, arith, All, codes, subst}
use Rattle.std.specs.Fmt.{decimal}
use Rattle.std.proofs.lemmas.Fmt.{decimal_nonempty, digits_decimal, digits_value-decimal, length-decimal-le}
use Rattle.std.proofs.lemmas.List.{length-map}
use Rattle.std.proofs.lemmas.List.FromFn.{length-enumerate_from}
use Rattle.cover_problem.specs.Problem.{Problem, IsProblem}
use Rattle.cover_problem.specs.Prefix.{InFileOrder}
use Rattle.cover_problem.specs.declared.answer.Answer.TheVariants.{Cover, NoCover}
use Rattle.dlx_reader.specs.Writing.{option_words, cover_text, answer_text}
use Rattle.dlx_reader.specs.Answers.{IsCount, IsCoverHead, IsAnswerOf, AreOptionsOf, head_words, further_lines}
use Rattle.dlx_reader.specs.AnswerLaws.{GivesCover}
use Rattle.dlx_reader.proofs.AnswerCounts.{numerals}
use Rattle.dlx_reader.proofs.AnswerMatched.{lines_named, lines_have_options, file_order_short}
use Rattle.dlx_reader.proofs.AnswerWords.{worded_lines-cover, worded_lines-none}
use Rattle.dlx_reader.proofs.NameBytes.{IsWord, words_words, words_some}

-- a number below 100,000 is read from what is written of it
count_again : (k : ℕ) → k < 100000 → IsCount (decimal k) k
count_again k small =
    let fits : k < 2 ^ 64 = omega (arith, small) in
    record {
      some = decimal_nonempty k fits;
      few = length-decimal-le 5 k (omega arith) small fits;
      decimal = digits_decimal numerals k fits;
      value = digits_value-decimal numerals k fits;
    }

cover_again : (p : Problem) (os : List ℕ) → IsProblem p → InFileOrder p os → GivesCover (cover_text p os) p os
cover_again p os is ordered =
    let small : length os < 100000 = omega (arith, file_order_short p os ordered, is.options) in
    let fits : length os < 2 ^ 64 = omega (arith, small) in
    let words : All (λ o. All IsWord (option_words p o)) os = λ k d inside. words_words p (get_or os k d) is (ordered.0 k d inside) in
    let some : All (λ o. 0 < length (option_words p o)) os = λ k d inside. words_some p (get_or os k d) is (ordered.0 k d inside) in
    let lines = worded_lines-cover p os fits words some in
    let head : head_words (cover_text p os) ≡ codes "cover" ∷ decimal (length os) ∷ [] = ap (λ (ls : List (ℕ × List (List ℕ))). (get_or ls 0 (0, [])).1) lines in
    let further : further_lines (cover_text p os) ≡ lines_named p os = ap (drop 1) lines in
    let long : length (further_lines (cover_text p os)) ≡ length os = ap length further ∙ length-enumerate_from 2 (map (option_words p) os) ∙ length-map os (option_words p) in
    let found = lines_have_options p os is ordered in
    let P : ℕ → Type 0 = λ k. IsCoverHead (head_words (cover_text p os)) k in
    let Q : List (ℕ × List (List ℕ)) → Type 0 = λ ls. AreOptionsOf p ls found.0 in
    record {
      read = found.0;
      answer = (subst P (sym long) (decimal (length os), head, count_again (length os) small), subst Q (sym further) found.1);
      same = found.2;
    }

pub covers_again : (p : Problem) (os : List ℕ) → IsProblem p → InFileOrder p os → GivesCover (answer_text p (Cover os)) p os
covers_again p os is ordered = cover_again p os is ordered

pub none_again : (p : Problem) → IsAnswerOf (answer_text p NoCover) p NoCover
none_again p = (ap (λ (ls : List (ℕ × List (List ℕ))). (get_or ls 0 (0, [])).1) worded_lines-none, ap (drop 1) worded_lines-none)
