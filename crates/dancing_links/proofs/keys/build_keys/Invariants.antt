use Rattle.dancing_links.specs.Keys.{IsCounting}
use Rattle.dancing_links.proofs.keys.build_keys.Given as goal

abbrev pub invariant-loop-node : goal.invariant-loop-node
invariant-loop-node l = IsCounting l.layout l.node l.keys.items
