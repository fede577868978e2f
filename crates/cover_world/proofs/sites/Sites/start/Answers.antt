use Rattle.std.proofs.Common.{ap}
use Rattle.cover_world.proofs.Openings.{sites_open, views_open}
use Rattle.cover_world.proofs.sites.Sites.start.Goals as goal

pub invariant_of-result : goal.invariant_of-result
invariant_of-result c =
    sites_open c.args.problem.now c.args.nodes _ c.in_ok-registry.registry c.in_ok-first_nodes.field-0.items c.in_ok-registry.ensures c.in_ok-first_nodes.ensures
    c.requires.some c.requires.most

pub returns : goal.returns
returns c =
    ap (λ views. record { problem = c.args.problem.now; sites = views })
    (views_open c.args.problem.now c.args.nodes _ c.in_ok-registry.registry c.in_ok-first_nodes.field-0.items c.in_ok-registry.ensures c.in_ok-first_nodes.ensures)
