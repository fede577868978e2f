use Rattle.dancing_links.specs.Building.{IsBuilding}
use Rattle.dancing_links.proofs.build.build_links.Given as goal

abbrev pub invariant-loop-node : goal.invariant-loop-node
invariant-loop-node l = IsBuilding l.layout l.node l.lasts.items l.links.items
