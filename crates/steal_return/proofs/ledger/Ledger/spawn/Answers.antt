use Rattle.steal_return.proofs.Outrun.{spawns}
use Rattle.steal_return.proofs.ledger.Ledger.spawn.Goals as goal

pub invariant_of-self : goal.invariant_of-self
invariant_of-self c =
    spawns _ c.self.invariant c.spawn.new.self c.spawn.result c.args.unit _ c.spawn.ensures.split c.spawn.ensures.err
