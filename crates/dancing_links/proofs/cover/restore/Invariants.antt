use Rattle.std.proofs.Common.{◌≡◌, ◌≤◌, length, drop}
use Rattle.dancing_links.specs.Columns.{IsLinked}
use Rattle.dancing_links.specs.Keys.{more}
use Rattle.dancing_links.specs.Linking.{relinks}
use Rattle.dancing_links.proofs.cover.restore.Given as goal

abbrev pub invariant-loop-left : goal.invariant-loop-left
invariant-loop-left l = record {
  linked : IsLinked l.layout l.links;
  left : l.left ≤ length l.trail;
  links : l.links ≡ relinks l.fn.links (drop l.left l.trail);
  keys : l.keys ≡ more l.layout l.fn.keys (drop l.left l.trail);
}

abbrev pub decreases-loop-left : goal.decreases-loop-left
decreases-loop-left l = l.left
