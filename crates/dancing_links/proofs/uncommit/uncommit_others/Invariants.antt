use Rattle.dancing_links.specs.Columns.{begin_of, end_of}
use Rattle.dancing_links.proofs.Others.{ahead, IsRound}
use Rattle.dancing_links.proofs.Around.{IsTakenBack}
use Rattle.dancing_links.proofs.uncommit.uncommit_others.Given as goal

abbrev pub invariant-loop-other : goal.invariant-loop-other
invariant-loop-other l = record {
  round : IsRound l.layout l.node l.other;
  taken : IsTakenBack l.layout l.node l.other l.fn.keys l.keys l.fn.commits l.commits;
}

abbrev pub decreases-loop-other : goal.decreases-loop-other
decreases-loop-other l = ahead (begin_of l.layout l.node) (end_of l.layout l.node) l.node l.other
