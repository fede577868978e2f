-- Weights of the primary items modulo a number, and when they show that there is no exact cover: each option weighs 0, and all
-- primary items together don't. An exact cover names each primary item once, so its options would weigh as much as these.
use Rattle.std.specs.Prelude.{ℕ, ◌%◌, List, length, slice_index_or, Bool, not, ◌==◌, ◌&&◌, nat_le}
use Rattle.std.specs.List.{list_all, sum, sum_by}
use Rattle.cover_problem.specs.Problem.{Problem, option_numbers, items_of}

-- A modulus, and a weight for each primary item, in order
pub record Weights : Type 0 where
  pub modulus : ℕ
  pub list : List ℕ

-- what an item weighs: nothing where it comes after those that have weights, as each secondary item does
abbrev pub weight_of : Weights → ℕ → ℕ
weight_of weights item = slice_index_or weights.list item 0

-- what the items of an option weigh together
abbrev pub option_weight : Problem → Weights → ℕ → ℕ
option_weight problem weights option = sum_by (weight_of weights) (items_of problem option)

-- what all items weigh together
abbrev pub whole_weight : Weights → ℕ
whole_weight weights = sum weights.list

-- whether the weight is 0 modulo the modulus
abbrev pub is_zero : Weights → ℕ → Bool
is_zero weights weight = weight % weights.modulus == 0

-- Whether these weights exclude an exact cover: primary items alone have weights, each option weighs 0 modulo the modulus, and all
-- primary items together don't.
abbrev pub excludes : Problem → Weights → Bool
excludes problem weights =
    nat_le (length weights.list) problem.primary
    && not (is_zero weights (whole_weight weights))
    && list_all (λ option. is_zero weights (option_weight problem weights option)) (option_numbers problem)
