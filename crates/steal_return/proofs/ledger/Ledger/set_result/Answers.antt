use Rattle.steal_return.proofs.Outrun.{ends}
use Rattle.steal_return.proofs.ledger.Ledger.set_result.Goals as goal

pub invariant_of-self : goal.invariant_of-self
invariant_of-self c =
    ends _ c.self.invariant c.args.unit c.args.child_result c.set_result.new.self c.set_result.ensures.after
