use Rattle.std.proofs.Common.{◌∙◌}
use Rattle.root_registry.proofs.Hellos.{all_dropped, raised_nodes}
use Rattle.root_registry.proofs.greeting.raised_incarnations.Goals as goal

pub returns : goal.returns
returns c =
    raised_nodes c.args.incarnations.now c.in_ok-later.later.items c.args.from.node c.args.from.incarnation _ c.later_of.result c.requires.some c.requires.there
    (c.in_ok-later.ensures.items_if_clones_equal (λ x y same. same) ∙ all_dropped c.args.incarnations.now) c.index.ensures c.later_of.ensures
