use Rattle.std.proofs.Common.{◌∙◌}
use Rattle.packet_wire.proofs.Numbers.{siblings_more}
use Rattle.packet_wire.proofs.writing.write_siblings.Goals as goal

pub loop-sibling-preserved : goal.loop-sibling-preserved
loop-sibling-preserved c =
    c.in_ok-write_sibling.ensures
    ∙ siblings_more c.args.siblings.now c.args.out.now.items c.loop-sibling.out.items c.loop-sibling.sibling-index _ c.loop-sibling-test.true c.loop-sibling.invariant
