-- Frames that come to their result (inlet and abort of the Cilk 5.4 manual).
use Rattle.std.specs.Prelude.{◌≡◌, List, ◌++◌, Some}
use Rattle.spawn_frame.specs.Aborts.{AbortsBelow, Reached, reached}
use Rattle.spawn_frame.specs.Frames.{frame, frame_result}
use Rattle.spawn_frame.specs.Names.{same_unit}
use Rattle.spawn_frame.specs.Splits.{with_result}
use Rattle.spawn_frame.specs.Units.{Entry, unit_of}
use Rattle.spawn_frame.specs.declared.child_result.ChildResult.{ChildResult}
use Rattle.spawn_frame.specs.declared.status.Status.TheVariants.{Split}
use Rattle.spawn_frame.specs.declared.unit.Unit.{Unit as WorkUnit}
use Rattle.steal_return.specs.Ledger.{Ledger, ledger_gets, ledger_own}

-- elements of which this is so were appended to the list
abbrev pub Appends : List Reached → List Reached → (List Reached → Type 0) → Type 0
Appends old new P = (outs : List Reached) × (new ≡ old ++ outs) × P outs

-- A settled frame gets its result, and all open units below it are aborted.
pub record FinishesFrame (old : Ledger) (unit : WorkUnit) (outs : List Reached) (new : Ledger) : Type 0 where
  pub entry : Entry
  pub is : unit_of old.table unit ≡ Some entry
  pub split : entry.status ≡ Split
  pub result : ChildResult
  pub settled : frame_result (frame unit old.own) ≡ Some result
  pub own : List Entry
  pub aborts : AbortsBelow (same_unit unit) (ledger_gets old unit (with_result unit result)).own own
  pub after : new ≡ ledger_own (ledger_gets old unit (with_result unit result)) own
  pub reaches : outs ≡ reached 0 (ledger_gets old unit (with_result unit result)).own own
