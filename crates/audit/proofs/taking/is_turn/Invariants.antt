use Rattle.audit.proofs.Walking.{NoneBelow}
use Rattle.audit.specs.Cursors.{HoldsUp}
use Rattle.audit.proofs.taking.is_turn.Given as goal

abbrev pub invariant-loop-k : goal.invariant-loop-k
invariant-loop-k g l = NoneBelow (HoldsUp l.site) l.books l.cursors l.k
