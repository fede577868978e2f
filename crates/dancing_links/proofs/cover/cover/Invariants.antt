use Rattle.std.proofs.Common.{◌-◌, ◌≤◌, length, take}
use Rattle.dancing_links.specs.Columns.{IsLinked}
use Rattle.dancing_links.specs.Keys.{with_mark}
use Rattle.dancing_links.proofs.Walk.{Going}
use Rattle.dancing_links.proofs.cover.cover.Given as goal

abbrev pub invariant-loop-node : goal.invariant-loop-node
invariant-loop-node l = record {
  linked : IsLinked l.layout l.links;
  low : l.layout.heads ≤ l.node;
  top : l.top ≤ length l.trail;
  going : Going l.layout l.fn.links l.item 0 l.links (with_mark l.fn.keys l.item) l.keys (take l.fn.top l.fn.trail) (take l.top l.trail) l.node;
}

abbrev pub decreases-loop-node : goal.decreases-loop-node
decreases-loop-node l = l.layout.tails - l.node
