-- A unit that is split by its branch item.
use Rattle.std.proofs.Common.{◌≡◌, ℕ, List, [], Some, None, ap}
use Rattle.cover_problem.specs.Branching.{branch_item, children, children_at, live_options}
use Rattle.cover_problem.specs.Problem.{Problem}
use Rattle.spawn_frame.specs.Tables.{longer_prefixes}

-- the children of a prefix are those by the live options of its branch item
pub children_by : (problem : Problem) (prefix : List ℕ) (item : ℕ) → branch_item problem prefix ≡ Some item
    → children problem prefix ≡ longer_prefixes prefix (live_options problem prefix item)
children_by problem prefix item e = ap (children_at problem prefix) e

-- a complete prefix has none
pub children_none : (problem : Problem) (prefix : List ℕ) → branch_item problem prefix ≡ None → children problem prefix ≡ []
children_none problem prefix e = ap (children_at problem prefix) e
