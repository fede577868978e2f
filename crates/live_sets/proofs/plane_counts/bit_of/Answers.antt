use Rattle.std.proofs.Common.{arith}
use Rattle.live_sets.proofs.Masked.{bit_inside}
use Rattle.live_sets.proofs.plane_counts.bit_of.Goals as goal

pub returns : goal.returns
returns c i low = bit_inside c.args.item c.args.first i (omega (arith, c.if-item-first.false)) (omega (arith, c.if-item-first-gt63.false)) low
