use Rattle.audit.specs.Cursors.{IsLeastBelow}
use Rattle.audit.proofs.least_left.least_left.Given as goal

abbrev pub invariant-loop-k : goal.invariant-loop-k
invariant-loop-k g l = IsLeastBelow l.books l.cursors l.k l.least
