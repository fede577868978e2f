use Rattle.audit.proofs.Walking.{NoneBelow}
use Rattle.audit.specs.Cursors.{IsPutOutBefore}
use Rattle.audit.proofs.put_out.was_put_out.Given as goal

abbrev pub invariant-loop-k : goal.invariant-loop-k
invariant-loop-k g l = NoneBelow (λ book cursor. IsPutOutBefore book.entries cursor l.packet) l.books l.cursors l.k
