-- What is left for a walk over the live options of an item.
use Rattle.std.proofs.Common.{◌≡◌, ℕ, zero, suc, ◌+◌, ◌≤◌, List, [], length, Option, Some, None, arith, sym, ap, ◌∙◌, inl, inr, slice_get}
use Rattle.std.proofs.lemmas.Bool.{cases_Bool, cases_lt}
use Rattle.cover_problem.specs.Branching.{is_choice}
use Rattle.cover_problem.specs.Onward.{live_options_from}
use Rattle.cover_problem.specs.Problem.{Problem}
use Rattle.cover_problem.proofs.Remaining.{live_options_from_take, live_options_from_skip, live_options_from_end}

-- the live options of an item from the next one on
abbrev pub options_left : Problem → List ℕ → ℕ → Option ℕ → List ℕ
options_left p os i None = []
options_left p os i (Some o) = live_options_from p os i o

options_from_next : (p : Problem) (os : List ℕ) (i n start : ℕ) (next : Option ℕ) → length p.options ≤ start + n → next ≡ slice_get (live_options_from p os i start) 0 → options_left p os i next ≡ live_options_from p os i start
options_from_next p os i zero start next enough e =
    let none = live_options_from_end p os i start (omega (arith, enough)) in
    ap (options_left p os i) (e ∙ ap (λ (is : List ℕ). slice_get is 0) none) ∙ sym none
options_from_next p os i (suc n) start next enough e = elim (cases_lt start (length p.options)) [
  | inr past ↦
      let none = live_options_from_end p os i start past in
      ap (options_left p os i) (e ∙ ap (λ (is : List ℕ). slice_get is 0) none) ∙ sym none
  | inl inside ↦ elim (cases_Bool (is_choice p os i start)) [
    | inr no_choice ↦
        let skip = live_options_from_skip p os i start inside no_choice in
        options_from_next p os i n (start + 1) next (omega (arith, enough)) (e ∙ ap (λ (is : List ℕ). slice_get is 0) skip) ∙ sym skip
    | inl choice ↦
        let take = live_options_from_take p os i start inside choice in
        ap (options_left p os i) (e ∙ ap (λ (is : List ℕ). slice_get is 0) take)
  ]
]

-- the next option is the first of what is left
pub options_next : (p : Problem) (os : List ℕ) (i start : ℕ) (next : Option ℕ) → next ≡ slice_get (live_options_from p os i start) 0 → options_left p os i next ≡ live_options_from p os i start
options_next p os i start next e = options_from_next p os i (length p.options) start next (omega arith) e
