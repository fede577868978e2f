use Rattle.std.proofs.Common.{◌∙◌}
use Rattle.packet_wire.proofs.Numbers.{numbers_more}
use Rattle.packet_wire.proofs.writing.write_options.Goals as goal

pub loop-option-preserved : goal.loop-option-preserved
loop-option-preserved c = c.in_ok-write_u16.ensures ∙ numbers_more 2 c.args.options.now c.args.out.now.items c.loop-option.out.items c.loop-option.option-index c.loop-option-test.true c.loop-option.invariant
