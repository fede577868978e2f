use Rattle.std.proofs.Common.{ap, ◌∙◌}
use Rattle.spawn_frame.specs.declared.status.Status.TheVariants.{Out}
use Rattle.spawn_frame.specs.declared.unit.Unit.TheVariants.{Own}
use Rattle.steal_return.proofs.Giving.{gives_child}
use Rattle.steal_return.proofs.Outrun.{gets}
use Rattle.steal_return.proofs.ledger.Ledger.give_child.Goals as goal
use Rattle.steal_return.specs.Steals.{is_older}

pub invariant_of-self : goal.invariant_of-self
invariant_of-self c =
    gets _ c.self.invariant (Own c.args.serial) (Out c.args.thief)
    (ap (λ l. is_older l.known c.args.thief) c.self.view_is ∙ c.requires.not_older)
    c.give.new.self c.give.ensures

pub returns-clause-gives : goal.returns-clause-gives
returns-clause-gives c =
    gives_child _ c.args.self.now c.self.view_is c.args.thief c.args.serial c.give.new.self c.requires.not_older c.requires.ready c.give.ensures
