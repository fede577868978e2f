use Rattle.std.proofs.Common.{◌∙◌}
use Rattle.packet_wire.proofs.Numbers.{numbers_more}
use Rattle.packet_wire.proofs.writing.write_incarnations.Goals as goal

pub loop-incarnation-preserved : goal.loop-incarnation-preserved
loop-incarnation-preserved c = c.in_ok-write_u32.ensures ∙ numbers_more 4 c.args.incarnations.now c.args.out.now.items c.loop-incarnation.out.items c.loop-incarnation.incarnation-index c.loop-incarnation-test.true c.loop-incarnation.invariant
