-- Exact covers as lists, and that there are none.
use Rattle.std.specs.Prelude.{◌≡◌, ℕ, List, [], Bool, None}
use Rattle.cover_problem.specs.ExactCover.{IsExactCover}
use Rattle.cover_problem.specs.Numbers.{is_in}
use Rattle.cover_problem.specs.Prefix.{InFileOrder}
use Rattle.cover_problem.specs.Problem.{Problem}
use Rattle.cover_problem.specs.Search.{first}

-- A list that is an exact cover, in the order of the file.
pub record IsCoverOf (problem : Problem) (options : List ℕ) : Type 0 where
  pub exact : IsExactCover problem (is_in options)
  pub order : InFileOrder problem options

-- No set of options is an exact cover, and the search in the defined order finds none.
pub record HasNoCover (problem : Problem) : Type 0 where
  pub none : (chosen : ℕ → Bool) → IsExactCover problem chosen → ⊥
  pub first : first problem [] ≡ None
