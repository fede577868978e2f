use Rattle.std.proofs.Common.{ap, ◌∙◌}
use Rattle.spawn_frame.specs.Picks.{is_ready}
use Rattle.spawn_frame.specs.Tables.{has_status}
use Rattle.steal_return.proofs.Each.{all_given, gives_next, giving_starts, next_ready}
use Rattle.steal_return.proofs.ledger.Ledger.give_each.Goals as goal

pub loop-serial-init : goal.loop-serial-init
loop-serial-init c = λ h. giving_starts c.args.self.now c.args.thief c.args.serials.now c.requires.not_older h

pub give_child-requires-clause-not_older : goal.give_child-requires-clause-not_older
give_child-requires-clause-not_older c = (c.loop-serial.invariant c.requires.together).not_older

pub give_child-requires-clause-ready : goal.give_child-requires-clause-ready
give_child-requires-clause-ready c =
    let h = c.requires.together in
    let next = next_ready c.args.self.now c.loop-serial.self c.args.thief h.parent c.args.serials.now c.loop-serial.serial-index 0 c.loop-serial-test.true (c.loop-serial.invariant h) in
    ap (has_status is_ready) next.1 ∙ ap is_ready next.2

pub loop-serial-preserved : goal.loop-serial-preserved
loop-serial-preserved c = λ h.
    gives_next c.args.self.now c.loop-serial.self c.give_child.new.self c.args.thief h.parent c.args.serials.now c.loop-serial.serial-index 0 c.loop-serial-test.true (c.loop-serial.invariant h)
    c.give_child.ensures.gives

pub returns : goal.returns
returns c =
    all_given c.args.self.now c.loop-serial.self c.args.thief c.args.serials.now c.loop-serial.serial-index c.requires.together c.loop-serial-test.false (c.loop-serial.invariant c.requires.together)
