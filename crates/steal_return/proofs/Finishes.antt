-- Frames that are finished, and guests that are dropped, with what is below.
use Rattle.std.proofs.Common.{◌≡◌, ℕ, Bool, true, List, [], ◌∷◌, ◌++◌, Some, None, Option, refl, sym, ap, subst, ◌∙◌, true≢false}
use Rattle.abort_tree.specs.Below.{is_among}
use Rattle.spawn_frame.specs.Aborts.{AbortsBelow, Reached, is_open, reached}
use Rattle.spawn_frame.specs.Frames.{frame, frame_result}
use Rattle.spawn_frame.specs.Names.{same_unit}
use Rattle.spawn_frame.specs.Picks.{is_split}
use Rattle.spawn_frame.specs.Splits.{with_result}
use Rattle.spawn_frame.specs.Tables.{has_status}
use Rattle.spawn_frame.specs.Units.{Entry, Table, guest_in, table_gets, table_own, unit_of}
use Rattle.spawn_frame.specs.declared.child_result.ChildResult.{ChildResult}
use Rattle.spawn_frame.specs.declared.site.ChildName.{ChildName}
use Rattle.spawn_frame.specs.declared.status.Status.{Status}
use Rattle.spawn_frame.specs.declared.status.Status.TheVariants.{Dropped}
use Rattle.spawn_frame.specs.declared.unit.Unit.{Unit as WorkUnit}
use Rattle.spawn_frame.specs.declared.unit.Unit.TheVariants.{Guest}
use Rattle.steal_return.proofs.Marking.{one_top}
use Rattle.steal_return.specs.Finishing.{FinishesFrame}
use Rattle.steal_return.specs.Guests.{DropsGuest}
use Rattle.steal_return.specs.Ledger.{Ledger, ledger_table}
use Rattle.spawn_frame.proofs.Winners.{split_path}

-- a unit with a status that passes is there
pub unit_there : (test : Status → Bool) (o : Option Entry) → has_status test o ≡ true → (entry : Entry) × (o ≡ Some entry) × (test entry.status ≡ true)
unit_there test None h = absurd (true≢false (sym h))
unit_there test (Some entry) h = (entry, refl, h)

-- a frame has its result, and what is below it is aborted
pub finishes_frame : (was now : Ledger) → was ≡ now → (unit : WorkUnit) (result : ChildResult) (mid end : Table)
    → has_status is_split (unit_of now.table unit) ≡ true → frame_result (frame unit now.own) ≡ Some result
    → mid ≡ table_gets was.table unit (with_result unit result) → end ≡ table_own mid end.own
    → AbortsBelow (is_among (unit ∷ [])) mid.own end.own
    → FinishesFrame now unit (reached 0 mid.own end.own) (ledger_table was end)
finishes_frame was now same unit result mid end split settled gets ends aborts =
    subst (λ l. has_status is_split (unit_of l.table unit) ≡ true → frame_result (frame unit l.own) ≡ Some result
    → FinishesFrame l unit (reached 0 mid.own end.own) (ledger_table was end)) same finishes split settled
  where
    finishes : has_status is_split (unit_of was.table unit) ≡ true → frame_result (frame unit was.own) ≡ Some result
        → FinishesFrame was unit (reached 0 mid.own end.own) (ledger_table was end)
    finishes s r =
        let u = unit_there is_split (unit_of was.table unit) s in
        record {
          entry = u.0;
          is = u.1;
          split = split_path u.0.status u.2;
          result = result;
          settled = r;
          own = end.own;
          aborts = subst (λ t. AbortsBelow (same_unit unit) t.own end.own) gets (subst (λ top. AbortsBelow top mid.own end.own) (one_top unit) aborts);
          after = ap (ledger_table was) (ends ∙ ap (λ t. table_own t end.own) gets);
          reaches = ap (λ t. reached 0 t.own end.own) gets;
        }

-- a guest is dropped, and what is below it is aborted
pub drops_guest : (was now : Ledger) → was ≡ now → (name : ChildName) (attempt : ℕ) (mid end : Table)
    → has_status is_open (guest_in was.guests name attempt) ≡ true
    → mid ≡ table_gets was.table (Guest name attempt) Dropped → end ≡ table_own mid end.own
    → AbortsBelow (is_among (Guest name attempt ∷ [])) mid.own end.own
    → DropsGuest now name attempt (reached 0 mid.own end.own) (ledger_table was end)
drops_guest was now same name attempt mid end opened gets ends aborts =
    subst (λ l. DropsGuest l name attempt (reached 0 mid.own end.own) (ledger_table was end)) same
    (let u = unit_there is_open (guest_in was.guests name attempt) opened in
    record {
      entry = u.0;
      is = u.1;
      open_still = u.2;
      own = end.own;
      aborts = subst (λ t. AbortsBelow (same_unit (Guest name attempt)) t.own end.own) gets (subst (λ top. AbortsBelow top mid.own end.own) (one_top (Guest name attempt)) aborts);
      after = ap (ledger_table was) (ends ∙ ap (λ t. table_own t end.own) gets);
      reaches = ap (λ t. reached 0 t.own end.own) gets;
    })

-- what was appended to a list that has the elements of another
pub appended : (old mid new outs : List Reached) → new ≡ mid ++ outs → mid ≡ old → new ≡ old ++ outs
appended old mid new outs e same = e ∙ ap (λ l. l ++ outs) same
