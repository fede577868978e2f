use Rattle.steal_return.proofs.Outrun.{ends}
use Rattle.spawn_frame.specs.declared.unit.Unit.TheVariants.{Own}
use Rattle.steal_return.proofs.ledger.Ledger.enter.Goals as goal

pub invariant_of-self : goal.invariant_of-self
invariant_of-self c =
    ends _ c.self.invariant (Own c.args.serial) c.args.child_result c.set_result.new.self c.set_result.ensures.after
