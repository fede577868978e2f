-- The options of an answer that was read are options of the problem, each once.
use Rattle.std.proofs.Common.{◌≡◌, ℕ, suc, ◌<◌, List, [], ◌∷◌, length, take, get_or, true, false, not, ◌==◌, nat_lt, refl, sym, ap, arith, inl, inr}
use Rattle.std.proofs.lemmas.Bool.{and_from, both_ways, cases_Bool, eqb-true, eq-eqb, lt-ltb, or_cases, or_left, or_right}
use Rattle.std.specs.List.{list_all}
use Rattle.cover_problem.specs.Numbers.{is_in, is_distinct}
use Rattle.cover_problem.specs.Problem.{Problem}
use Rattle.cover_problem.specs.declared.answer.Answer.{Answer}
use Rattle.cover_problem.specs.declared.answer.Answer.TheVariants.{Cover, NoCover}
use Rattle.dlx_reader.specs.Answers.{AreOptionsOf, IsAnswerOf, further_lines}
use Rattle.search_engines.specs.Check.{IsListed, IsListedAnswer}

-- a fact of each element by index is a test of all
all_below : (bound : ℕ) (xs : List ℕ) → ((k : ℕ) → k < length xs → get_or xs k 0 < bound) → list_all (λ x. nat_lt x bound) xs ≡ true
all_below bound [] each = refl
all_below bound (x ∷ xs) each =
    and_from (nat_lt x bound) (list_all (λ y. nat_lt y bound) xs) (lt-ltb x bound (each 0 (omega arith)))
    (all_below bound xs (λ k h. each (suc k) (omega arith)))

-- what is in a list stands at some place
pub record StandsAt (xs : List ℕ) (x : ℕ) : Type 0 where
  pub place : ℕ
  pub within : place < length xs
  pub there : get_or xs place 0 ≡ x

stands : (xs : List ℕ) (x : ℕ) → is_in xs x ≡ true → StandsAt xs x
stands [] x here = absurd (both_ways false refl here)
stands (y ∷ ys) x here =
    elim (or_cases (y == x) (is_in ys x) here) [
      | inl same ↦ record { place = 0; within = omega arith; there = eqb-true y x same }
      | inr later ↦ let found = stands ys x later in record { place = suc found.place; within = omega (arith, found.within); there = found.there }
    ]

-- where no element stands before its place, none stands twice
distinct_by : (xs : List ℕ) → ((k : ℕ) → k < length xs → is_in (take k xs) (get_or xs k 0) ≡ false) → is_distinct xs ≡ true
distinct_by [] each = refl
distinct_by (x ∷ xs) each =
    and_from (not (is_in xs x)) (is_distinct xs)
    (elim (cases_Bool (is_in xs x)) [
      | inl again ↦ let found = stands xs x again in
          let before = or_left (x == get_or xs found.place 0) (is_in (take found.place xs) (get_or xs found.place 0)) (eq-eqb x (get_or xs found.place 0) (sym found.there)) in
          absurd (both_ways _ (each (suc found.place) (omega (arith, found.within))) before)
      | inr once ↦ ap not once
    ])
    (distinct_by xs (λ k h.
    elim (cases_Bool (is_in (take k xs) (get_or xs k 0))) [
      | inl again ↦ absurd (both_ways _ (each (suc k) (omega arith)) (or_right (x == get_or xs k 0) (is_in (take k xs) (get_or xs k 0)) again))
      | inr once ↦ once
    ]))

listed : (problem : Problem) (lines : List (ℕ × List (List ℕ))) (options : List ℕ) → AreOptionsOf problem lines options → IsListed problem options
listed problem lines options are = record {
  within = all_below (length problem.options) options (λ k h. (are.each k (omega (arith, are.count))).free.in_range);
  distinct = distinct_by options (λ k h. (are.each k (omega (arith, are.count))).free.unused);
}

pub answer_listed : (text : List ℕ) (problem : Problem) (answer : Answer) → IsAnswerOf text problem answer → IsListedAnswer problem answer
answer_listed text problem (Cover options) is = listed problem (further_lines text) options is.1
answer_listed text problem NoCover is = tt
