use Rattle.std.proofs.Common.{ap, ◌∙◌}
use Rattle.node_core.specs.SiteView.{opening_view}
use Rattle.root_registry.proofs.Cores.{begins}
use Rattle.root_registry.proofs.registry.Registry.start.Goals as goal

pub invariant_of-result : goal.invariant_of-result
invariant_of-result c =
    begins c.args.problem.now c.args.nodes c.new.result c.new-2.result
    (c.the_registry_stays_formed.ensures.begins c.args.problem.now c.args.nodes c.recall_rules.ensures c.requires.some c.requires.most)
    (c.new.ensures ∙ ap opening_view c.in_ok-ledger.ensures) c.new-2.ensures
