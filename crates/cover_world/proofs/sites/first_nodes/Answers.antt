use Rattle.cover_world.proofs.Openings.{opened_next}
use Rattle.cover_world.proofs.sites.first_nodes.Goals as goal

pub loop-place-preserved : goal.loop-place-preserved
loop-place-preserved c =
    opened_next c.args.problem.now c.args.nodes _ c.loop-place.cores.items c.push.new.self.items c.loop-place.place c.in_ok-core.core c.loop-place.invariant
    c.in_ok-core.ensures c.in_ok-push.ensures.items
