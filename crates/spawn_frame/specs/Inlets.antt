-- What an inlet has heard of the children of a frame (inlets of the Cilk 5.4 manual).
use Rattle.std.specs.Prelude.{◌≡◌, ◌⊎◌, ℕ, suc, ◌-◌, Bool, true, false, not, ◌&&◌, ◌||◌, if◌then◌else◌, List, [], ◌∷◌, filter, length, Option, Some, None, is_some, min, ◌==◌}
use Rattle.spawn_frame.specs.Frames.{cover_of, is_unit}
use Rattle.spawn_frame.specs.Units.{Entry}
use Rattle.spawn_frame.specs.declared.child_result.ChildResult.{ChildResult}
use Rattle.spawn_frame.specs.declared.child_result.ChildResult.TheVariants.{Cover, Empty}
use Rattle.spawn_frame.specs.declared.heard.Heard.{Heard}
use Rattle.spawn_frame.specs.declared.heard.Heard.TheVariants.{Open, Settled}
use Rattle.spawn_frame.specs.declared.status.Status.{Status}
use Rattle.spawn_frame.specs.declared.status.Status.TheVariants.{Done}
use Rattle.spawn_frame.specs.declared.unit.Unit.{Unit as WorkUnit}

-- how many children an inlet has not heard, and which of those heard it goes by
pub record FirstFound : Type 0 where
  pub left : ℕ
  pub winner : Option ℕ

-- the result is a cover
abbrev pub is_cover : ChildResult → Bool
is_cover (Cover options) = true
is_cover Empty = false

-- before any child is heard
abbrev pub new_hearing : ℕ → FirstFound
new_hearing children = record { left = children; winner = None }

-- the lesser serial, where there are two
abbrev pub lesser : ℕ → Option ℕ → ℕ
lesser child None = child
lesser child (Some winner) = min winner child

-- what was heard, and the result of one child more: the least serial that had a cover goes on
abbrev pub hearing_of : FirstFound → ℕ → ChildResult → FirstFound
hearing_of before child (Cover options) = record { left = before.left - 1; winner = Some (lesser child before.winner) }
hearing_of before child Empty = record before { left = before.left - 1 }

-- settled once there is a winner, or none is left
abbrev pub heard_of : FirstFound → Heard
heard_of hearing = if is_some hearing.winner || hearing.left == 0 then Settled else Open

-- the winner is the one before, or a child with a cover
abbrev pub IsNextWinner : ℕ → ChildResult → Option ℕ → Option ℕ → Type 0
IsNextWinner child (Cover options) before after = (after ≡ before) ⊎ (after ≡ Some child)
IsNextWinner child Empty before after = after ≡ before

-- its result is known
abbrev pub is_done : Status → Bool
is_done (Done result) = true
is_done _ = false

-- how many children of the unit are not done
abbrev pub children_left : WorkUnit → List Entry → ℕ
children_left unit own = length (filter (λ c. is_unit c.parent unit && not (is_done c.status)) own)

-- the first child of the unit that is done with a cover, of those from serial k on
abbrev pub winner_from : WorkUnit → ℕ → List Entry → Option ℕ
winner_from unit k [] = None
winner_from unit k (c ∷ cs) = if is_unit c.parent unit && is_some (cover_of c.status) then Some k else winner_from unit (suc k) cs

-- the child of least serial that is done with a cover
abbrev pub frame_winner : WorkUnit → List Entry → Option ℕ
frame_winner unit own = winner_from unit 0 own

-- what an inlet has heard that took the result of each child of the unit that is done
abbrev pub frame_hearing : WorkUnit → List Entry → FirstFound
frame_hearing unit own = record { left = children_left unit own; winner = frame_winner unit own }

-- whether a frame is settled, by the result that it gives
abbrev pub heard_by : Option ChildResult → Heard
heard_by None = Open
heard_by (Some result) = Settled
