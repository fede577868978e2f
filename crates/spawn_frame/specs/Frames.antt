-- The children of a unit, and what they come to together (frames and inlets of the Cilk 5.4 manual).
use Rattle.std.specs.Prelude.{ℕ, Bool, true, false, List, [], ◌∷◌, filter, Option, Some, None}
use Rattle.spawn_frame.specs.Names.{same_unit}
use Rattle.spawn_frame.specs.Units.{Entry}
use Rattle.spawn_frame.specs.declared.child_result.ChildResult.{ChildResult}
use Rattle.spawn_frame.specs.declared.child_result.ChildResult.TheVariants.{Cover, Empty}
use Rattle.spawn_frame.specs.declared.status.Status.{Status}
use Rattle.spawn_frame.specs.declared.status.Status.TheVariants.{Done}
use Rattle.spawn_frame.specs.declared.unit.Unit.{Unit as WorkUnit}

-- whether a parent is this unit
abbrev pub is_unit : Option WorkUnit → WorkUnit → Bool
is_unit None unit = false
is_unit (Some parent) unit = same_unit parent unit

-- the children of a unit, by serial
abbrev pub frame : WorkUnit → List Entry → List Entry
frame unit own = filter (λ c. is_unit c.parent unit) own

-- the cover that a done child has
abbrev pub cover_of : Status → Option (List ℕ)
cover_of (Done (Cover options)) = Some options
cover_of _ = None

-- done, with no cover below
abbrev pub is_empty_handed : Status → Bool
is_empty_handed (Done Empty) = true
is_empty_handed _ = false

-- the result of a first child with these, and of the others: a cover of the first goes before theirs
abbrev pub first_result : Option (List ℕ) → Bool → Option ChildResult → Option ChildResult
first_result (Some options) empty rest = Some (Cover options)
first_result None empty None = None
first_result None empty (Some (Cover options)) = Some (Cover options)
first_result None true (Some Empty) = Some Empty
first_result None false (Some Empty) = None

-- What a frame gives: the first cover among its children, else Empty where all are done with Empty, else nothing yet.
abbrev pub frame_result : List Entry → Option ChildResult
frame_result [] = Some Empty
frame_result (c ∷ cs) = first_result (cover_of c.status) (is_empty_handed c.status) (frame_result cs)
