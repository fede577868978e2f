use Rattle.std.proofs.Common.{arith}
use Rattle.std.proofs.lemmas.Bool.Decides.{nat_tests}
use Rattle.dlx_reader.proofs.answer_head.count_of.Goals as goal
use Rattle.dlx_reader.proofs.answer_head.count_of.Goals.{then-is_empty-via-then-is_empty, then-is_empty-via-else-is_empty+then-digits-gt5, then-is_empty-via-else-is_empty+else-digits-gt5+then-not-are_digits}

pub returns-then-is_empty-clause-none : goal.returns-then-is_empty-clause-none
returns-then-is_empty-clause-none c count h =
    elim c.then-is_empty.branch [
      | then-is_empty-via-then-is_empty w ↦ absurd (grind (arith, nat_tests, h.some, w.if-is_empty.ensures))
      | then-is_empty-via-else-is_empty+then-digits-gt5 w ↦ absurd (omega (arith, h.few))
      | then-is_empty-via-else-is_empty+else-digits-gt5+then-not-are_digits w ↦ absurd (cc (h.decimal, w.are_digits.ensures, w.if-not-are_digits.true))
    ]
