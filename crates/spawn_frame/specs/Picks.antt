-- Which unit is taken up next, and which frame is finished next: the own child of greatest serial, else the least guest
-- (as a Cilk worker takes what it spawned last).
use Rattle.std.specs.Prelude.{ℕ, suc, Bool, true, false, ◌&&◌, if◌then◌else◌, List, [], ◌∷◌, Option, Some, None, is_some}
use Rattle.spawn_frame.specs.Frames.{frame, frame_result}
use Rattle.spawn_frame.specs.Units.{Entry, GuestEntry, Table}
use Rattle.spawn_frame.specs.declared.status.Status.{Status}
use Rattle.spawn_frame.specs.declared.status.Status.TheVariants.{Finished, Ready, Split}
use Rattle.spawn_frame.specs.declared.unit.Unit.{Unit as WorkUnit}
use Rattle.spawn_frame.specs.declared.unit.Unit.TheVariants.{Guest, Own}

-- the first of two units that is there
abbrev pub either_unit : Option WorkUnit → Option WorkUnit → Option WorkUnit
either_unit None second = second
either_unit (Some unit) second = Some unit

-- the own child of greatest serial that passes, of those from serial k on
abbrev pub last_own : (WorkUnit → Entry → Bool) → ℕ → List Entry → Option WorkUnit
last_own test k [] = None
last_own test k (c ∷ cs) = either_unit (last_own test (suc k) cs) (if test (Own k) c then Some (Own k) else None)

-- the least guest that passes
abbrev pub first_guest : (WorkUnit → Entry → Bool) → List GuestEntry → Option WorkUnit
first_guest test [] = None
first_guest test (g ∷ gs) =
    if test (Guest g.name g.entry.attempt) g.entry then Some (Guest g.name g.entry.attempt) else first_guest test gs

-- the own child of greatest serial that passes, else the least guest
abbrev pub pick : (WorkUnit → Entry → Bool) → Table → Option WorkUnit
pick test table = either_unit (last_own test 0 table.own) (first_guest test table.guests)

-- it waits for a worker
abbrev pub is_ready : Status → Bool
is_ready Ready = true
is_ready _ = false

-- it is a frame
abbrev pub is_split : Status → Bool
is_split Split = true
is_split _ = false

-- it is a guest with a result that its owner has not judged
abbrev pub is_finished : Status → Bool
is_finished (Finished result) = true
is_finished _ = false

-- the unit that is taken up next
abbrev pub ready_unit : Table → Option WorkUnit
ready_unit table = pick (λ unit entry. is_ready entry.status) table

-- the frame that is finished next: one that is settled
abbrev pub ripe_unit : Table → Option WorkUnit
ripe_unit table = pick (λ unit entry. is_split entry.status && is_some (frame_result (frame unit table.own))) table
