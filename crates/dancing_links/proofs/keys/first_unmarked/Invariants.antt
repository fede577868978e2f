use Rattle.dancing_links.specs.Keys.{AreMarked}
use Rattle.dancing_links.proofs.keys.first_unmarked.Given as goal

abbrev pub invariant-loop-item : goal.invariant-loop-item
invariant-loop-item l = AreMarked l.keys l.start l.item
