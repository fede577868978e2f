use Rattle.std.proofs.Common.{get_or, sym, ap, ◌∙◌}
use Rattle.steal_return.proofs.Learning.{raised_at, raised_other}
use Rattle.steal_return.proofs.known.incarnation_after.Goals as goal
use Rattle.steal_return.specs.Members.{known_after}

pub returns-then-node-from : goal.returns-then-node-from
returns-then-node-from c =
    c.later_of.ensures ∙ raised_at c.args.known.now c.in-Hello.from.node c.in-Hello.from.incarnation c.args.node c.requires c.if-node-from.true
    ∙ ap (λ told. get_or (known_after told c.args.known.now) c.args.node 0) (sym c.in-Hello.is)

pub returns-else-node-from : goal.returns-else-node-from
returns-else-node-from c =
    sym (raised_other c.args.known.now c.in-Hello.from.node c.in-Hello.from.incarnation c.args.node c.if-node-from.false)
    ∙ ap (λ told. get_or (known_after told c.args.known.now) c.args.node 0) (sym c.in-Hello.is)
