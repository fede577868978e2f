-- How far a visit of a prefix has come, while options are chosen and taken back below it.
use Rattle.std.specs.Prelude.{◌≡◌, ℕ, ◌+◌, ◌≤◌, List, Bool, true, false, None}
use Rattle.cover_problem.specs.Onward.{live_options_from, first_among, visits_among}
use Rattle.cover_problem.specs.Problem.{Problem}
use Rattle.cover_problem.specs.Search.{first, visits}
use Rattle.choices.specs.Choices.{Choices, IsChild, with_child}

-- A visit of a prefix that began with so much fuel is done with some of its children: these options are still to be put to it, with so much left.
pub record IsSoFar (problem : Problem) (prefix : List ℕ) (fuel left : ℕ) (options : List ℕ) : Type 0 where
  pub found : first_among problem problem.primary prefix options ≡ first problem prefix
  pub visits : visits_among problem problem.primary prefix options + fuel ≡ visits problem prefix + left
  pub less : left ≤ fuel

-- A visit of the root that began with so much fuel has come to these choices, with so much left. At the root all is left; to a child it
-- has come if it had come to what the child is of, and is done with the children before this one.
pub data IsReached (root : Choices) (fuel : ℕ) : Choices → ℕ → Type 0 where
  at_root : IsReached root fuel root fuel
  at_child : (before : Choices) (item option earlier left : ℕ) → IsReached root fuel before earlier
      → IsChild before.problem before.chosen item option
      → IsSoFar before.problem before.chosen earlier left (live_options_from before.problem before.chosen item option)
      → IsReached root fuel (with_child before item option) left

-- It has come to these choices, below which there is no cover, and so much is left once they and all below are visited.
pub record IsBarrenAt (root : Choices) (fuel : ℕ) (now : Choices) (left : ℕ) : Type 0 where
  pub earlier : ℕ
  pub reached : IsReached root fuel now earlier
  pub visits : visits now.problem now.chosen + left ≡ earlier
  pub none : first now.problem now.chosen ≡ None

-- All below the root is visited without a cover, so much is left after that, and the choices are those of the root.
pub record IsEnded (root : Choices) (fuel : ℕ) (now : Choices) (left : ℕ) : Type 0 where
  pub visits : visits root.problem root.chosen + left ≡ fuel
  pub none : first root.problem root.chosen ≡ None
  pub back : now ≡ root

-- whether it goes on at these choices, or has ended
abbrev pub IsOnward : Choices → ℕ → ℕ → Choices → Bool → Type 0
IsOnward root fuel left now true = IsReached root fuel now left
IsOnward root fuel left now false = IsEnded root fuel now left
