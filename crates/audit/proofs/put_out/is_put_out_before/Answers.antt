use Rattle.std.proofs.Common.{arith, sym, true≢false}
use Rattle.audit.proofs.put_out.is_put_out_before.Goals as goal

pub returns : goal.returns
returns c = (λ f. absurd (true≢false (sym f)), λ h. absurd (c.loop-place.invariant h.0 h.1 (omega (arith, h.2, c.loop-place-test.false)) h.3 h.4))
