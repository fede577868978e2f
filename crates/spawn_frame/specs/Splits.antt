-- Units that have a result, and units that are split into children.
use Rattle.std.specs.Prelude.{ℕ, List, ◌++◌, map, Some}
use Rattle.spawn_frame.specs.Units.{Entry, Table, table_own, table_gets}
use Rattle.spawn_frame.specs.declared.child_result.ChildResult.{ChildResult}
use Rattle.spawn_frame.specs.declared.status.Status.{Status}
use Rattle.spawn_frame.specs.declared.status.Status.TheVariants.{Done, Finished, Ready, Split}
use Rattle.spawn_frame.specs.declared.unit.Unit.{Unit as WorkUnit}
use Rattle.spawn_frame.specs.declared.unit.Unit.TheVariants.{Guest, Own}

-- the status of a unit that has a result: a guest is not settled until its owner says so
abbrev pub with_result : WorkUnit → ChildResult → Status
with_result (Own serial) result = Done result
with_result (Guest name attempt) result = Finished result

-- a child of a unit when it is made
abbrev pub new_child : WorkUnit → List ℕ → Entry
new_child unit prefix = record { parent = Some unit; prefix = prefix; attempt = 1; status = Ready }

-- the unit is split, and children with these prefixes have the next serials, in order
abbrev pub split_into : Table → WorkUnit → List (List ℕ) → Table
split_into table unit prefixes =
    table_own (table_gets table unit Split) ((table_gets table unit Split).own ++ map (λ p. new_child unit p) prefixes)
