use Rattle.steal_return.proofs.Outrun.{redoes}
use Rattle.steal_return.proofs.ledger.Ledger.redo.Goals as goal

pub invariant_of-self : goal.invariant_of-self
invariant_of-self c =
    redoes _ c.self.invariant c.args.serial c.redo.new.self c.redo.ensures
