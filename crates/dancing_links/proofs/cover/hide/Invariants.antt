use Rattle.std.proofs.Common.{◌≡◌, ◌+◌, ◌++◌, length, take}
use Rattle.dancing_links.specs.Columns.{IsLinked, begin_of, end_of}
use Rattle.dancing_links.specs.Keys.{fewer}
use Rattle.dancing_links.specs.Covering.{others}
use Rattle.dancing_links.specs.Linking.{unlinks}
use Rattle.dancing_links.proofs.Others.{ahead, to_come, IsRound}
use Rattle.dancing_links.proofs.cover.hide.Given as goal

abbrev pub invariant-loop-other : goal.invariant-loop-other
invariant-loop-other l = record {
  linked : IsLinked l.rows l.links;
  round : IsRound l.rows l.node l.other;
  links : unlinks l.links (to_come l.rows l.node l.other) ≡ unlinks l.fn.links (others l.rows l.node);
  trail : take l.top l.trail ++ to_come l.rows l.node l.other ≡ take l.fn.top l.fn.trail ++ others l.rows l.node;
  top : l.top + length (to_come l.rows l.node l.other) ≡ l.fn.top + length (others l.rows l.node);
  keys : fewer l.rows l.keys (to_come l.rows l.node l.other) ≡ fewer l.rows l.fn.keys (others l.rows l.node);
}

abbrev pub decreases-loop-other : goal.decreases-loop-other
decreases-loop-other l = ahead (begin_of l.rows l.node) (end_of l.rows l.node) l.node l.other
