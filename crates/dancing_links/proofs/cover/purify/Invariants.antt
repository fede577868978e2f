use Rattle.std.proofs.Common.{◌-◌, ◌≤◌, length, take}
use Rattle.dancing_links.specs.Columns.{IsLinked}
use Rattle.dancing_links.specs.Keys.{with_mark}
use Rattle.dancing_links.proofs.Walk.{Going}
use Rattle.dancing_links.proofs.cover.purify.Given as goal

abbrev pub invariant-loop-other : goal.invariant-loop-other
invariant-loop-other l = record {
  linked : IsLinked l.layout l.links;
  low : l.layout.heads ≤ l.other;
  top : l.top ≤ length l.trail;
  going : Going l.layout l.fn.links l.item l.colour l.links (with_mark l.fn.keys l.item) l.keys (take l.fn.top l.fn.trail) (take l.top l.trail) l.other;
}

abbrev pub decreases-loop-other : goal.decreases-loop-other
decreases-loop-other l = l.layout.tails - l.other
