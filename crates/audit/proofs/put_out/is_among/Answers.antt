use Rattle.std.proofs.Common.{arith, sym, true≢false}
use Rattle.std.proofs.lemmas.Option.{slice_get_within}
use Rattle.audit.proofs.put_out.is_among.Goals as goal

pub returns : goal.returns
returns c = (λ f. absurd (true≢false (sym f)), λ h. absurd (c.loop-one.invariant h.0 (omega (arith, slice_get_within c.args.packets.now h.0 c.args.packet.now h.1, c.loop-one-test.false)) h.1))
