use Rattle.std.proofs.Common.{arith, inl, inr}
use Rattle.brancher.proofs.visit.visit_below.Goals as goal

pub returns-clause-stopped : goal.returns-clause-stopped
returns-clause-stopped g c = λ left is. elim (c.visit_prefix.ensures.stopped left is) [
  | inl may ↦ may
  | inr none ↦ absurd (omega (arith, none, (c.visit_prefix.ensures.reached left is).0))
]
