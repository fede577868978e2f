use Rattle.std.specs.Prelude.{ℕ, List}
use Rattle.cover_problem.specs.Problem.{Problem}

-- what a searcher is over, and what it found last
pub record Searcher : Type 0 where
  pub problem : Problem
  pub found : List ℕ
