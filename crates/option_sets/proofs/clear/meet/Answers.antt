use Rattle.std.proofs.Common.{arith}
use Rattle.option_sets.proofs.Bits.{has-met}
use Rattle.option_sets.proofs.clear.meet.Goals as goal

pub returns : goal.returns
returns c = has-met c.args.first.now c.args.second.now c.loop-place.set (omega (arith, c.requires.first, c.loop-place.auto.set)) (omega (arith, c.requires.second, c.loop-place.auto.set)) (λ k inside. c.loop-place.invariant k (omega (arith, inside, c.loop-place-test.false, c.loop-place.auto.set)))
