-- What the answer of a branch says.
use Rattle.std.specs.Prelude.{ℕ, ◌<◌, List, length, Option, Some, None}
use Rattle.cover_problem.specs.Branching.{IsOpen}
use Rattle.cover_problem.specs.Problem.{Problem}
use Rattle.brancher.specs.declared.branches.Branch.{Branch}
use Rattle.brancher.specs.declared.branches.Branch.TheVariants.{Complete, Item}

-- the branch item in it
abbrev pub branch_told : Branch → Option ℕ
branch_told Complete = None
branch_told (Item item) = Some item

-- an item in it is an uncovered primary one
abbrev pub IsOpenBranch : Problem → List ℕ → Branch → Type 0
IsOpenBranch problem prefix Complete = Unit {0}
IsOpenBranch problem prefix (Item item) = IsOpen problem prefix item × (item < length problem.names)
