use Rattle.audit.proofs.Staging.{entries_left, Kept}
use Rattle.audit.proofs.merge.merge.Given as goal

abbrev pub invariant-loop-k : goal.invariant-loop-k
invariant-loop-k g l = Kept l.books l.cursors.items

abbrev pub decreases-loop-k : goal.decreases-loop-k
decreases-loop-k g l = entries_left l.cursors.items l.books
