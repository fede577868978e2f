use Rattle.steal_return.proofs.Outrun.{aborts, gets}
use Rattle.spawn_frame.specs.declared.status.Status.TheVariants.{Dropped}
use Rattle.std.proofs.Common.{refl}
use Rattle.std.proofs.Common.{sym, subst, ◌∙◌}
use Rattle.abort_tree.specs.Below.{MarksBelow, is_among}
use Rattle.spawn_frame.specs.declared.unit.Unit.TheVariants.{Guest}
use Rattle.std.proofs.Common.{[], ◌∷◌}
use Rattle.steal_return.proofs.Fewer.{appended_few, dropped_few}
use Rattle.steal_return.proofs.Finishes.{appended, drops_guest}
use Rattle.steal_return.proofs.Marking.{only_own}
use Rattle.steal_return.proofs.ledger.Ledger.receive_refuse.Goals as goal

pub returns-clause-dropped : goal.returns-clause-dropped
returns-clause-dropped c = (
  _,
  appended c.args.list.now.items c.reserve.new.self.items c.abort.new.list.items _ c.abort.ensures.list c.reserve.ensures.items,
  drops_guest _ c.args.self.now c.self.view_is (record { site = c.args.from; serial = c.args.serial }) c.args.attempt c.drop_guest.new.self c.abort.new.table
      (sym c.is_open.ensures ∙ c.if-not-is_open.false) c.drop_guest.ensures (only_own c.drop_guest.new.self c.abort.new.table _ c.abort.ensures.table)
      (c.abort.ensures.below _
      (subst (λ t. MarksBelow (is_among (Guest (record { site = c.args.from; serial = c.args.serial }) c.args.attempt ∷ [])) t.own c.in_ok-reach.reach) (sym c.drop_guest.ensures)
      c.in_ok-reach.ensures)),
)

pub invariant_of-self : goal.invariant_of-self
invariant_of-self c =
    aborts _
    (gets _ c.self.invariant (Guest (record { site = c.args.from; serial = c.args.serial }) c.args.attempt) Dropped refl c.drop_guest.new.self c.drop_guest.ensures)
    c.in_ok-reach.reach c.abort.new.table c.abort.ensures.table

pub returns-clause-few : goal.returns-clause-few
returns-clause-few c = appended_few _ _ _ _ (dropped_few c.args.self.now _ _ c.args.attempt) (returns-clause-dropped c)
