use Rattle.std.proofs.Common.{refl}
use Rattle.spawn_frame.specs.declared.status.Status.TheVariants.{Here}
use Rattle.steal_return.proofs.Outrun.{gets}
use Rattle.steal_return.proofs.ledger.Ledger.take_up.Goals as goal

pub invariant_of-self : goal.invariant_of-self
invariant_of-self c =
    gets _ c.self.invariant c.args.unit Here refl c.take_up.new.self c.take_up.ensures.after
