-- Two problems that have the same exact covers.
use Rattle.std.specs.Prelude.{◌≡◌, ℕ, length, Bool}
use Rattle.cover_problem.specs.ExactCover.{IsExactCover}
use Rattle.cover_problem.specs.Problem.{Problem}

-- They have as many options, and a set of these is an exact cover of both or of neither.
pub record HaveSameCovers (problem other : Problem) : Type 0 where
  pub options : length other.options ≡ length problem.options
  pub there : (chosen : ℕ → Bool) → IsExactCover problem chosen → IsExactCover other chosen
  pub back : (chosen : ℕ → Bool) → IsExactCover other chosen → IsExactCover problem chosen
