-- What is below a unit, and what an abort makes of it (abort of the Cilk 5.4 manual).
use Rattle.std.specs.Prelude.{◌≡◌, ◌⊎◌, ℕ, suc, Bool, true, false, length, List, [], ◌∷◌, ◌++◌, Some, slice_get}
use Rattle.spawn_frame.specs.Units.{Entry, with_status}
use Rattle.spawn_frame.specs.declared.out.Out.{Out as WasOut}
use Rattle.spawn_frame.specs.declared.status.Status.{Status}
use Rattle.spawn_frame.specs.declared.status.Status.TheVariants.{Aborted, Finished, Here, Out, Ready, Split}
use Rattle.spawn_frame.specs.declared.unit.Unit.{Unit as WorkUnit}
use Rattle.spawn_frame.specs.declared.unit.Unit.TheVariants.{Own}

-- not finished for good
abbrev pub is_open : Status → Bool
is_open Ready = true
is_open Here = true
is_open Split = true
is_open (Out thief) = true
is_open (Finished result) = true
is_open _ = false

-- the own child of this serial is a child of one of the units, or of an own child below one of them
pub data IsBelow (top : WorkUnit → Bool) (own : List Entry) : ℕ → Type 0 where
  child : {serial : ℕ} {entry : Entry} {unit : WorkUnit}
      → slice_get own serial ≡ Some entry → entry.parent ≡ Some unit → top unit ≡ true → IsBelow top own serial
  deeper : {serial parent : ℕ} {entry : Entry}
      → slice_get own serial ≡ Some entry → entry.parent ≡ Some (Own parent) → IsBelow top own parent → IsBelow top own serial

-- Each open unit below the units becomes Aborted, and each other one stays as it was.
pub record AbortsBelow (top : WorkUnit → Bool) (old new : List Entry) : Type 0 where
  pub each : (k : ℕ) (entry : Entry) → slice_get old k ≡ Some entry
      → (IsBelow top old k × (is_open entry.status ≡ true) × (slice_get new k ≡ Some (with_status Aborted entry)))
      ⊎ ((IsBelow top old k → is_open entry.status ≡ true → ⊥) × (slice_get new k ≡ Some entry))
  pub ends : length new ≡ length old

-- a child that was out, and whose thief an abort has to reach
abbrev pub Reached : Type 0
Reached = WasOut

-- a child that was out before and is aborted after
abbrev pub reached_one : ℕ → ℕ → Status → Status → List Reached
reached_one serial attempt (Out thief) Aborted = record { serial = serial; attempt = attempt; thief = thief } ∷ []
reached_one serial attempt _ _ = []

-- each child that was out before and is aborted after, by serial
abbrev pub reached : ℕ → List Entry → List Entry → List Reached
reached serial [] new = []
reached serial (c ∷ cs) [] = []
reached serial (c ∷ cs) (d ∷ ds) = reached_one serial c.attempt c.status d.status ++ reached (suc serial) cs ds
