use Rattle.live_sets.proofs.Masked.{mask_more}
use Rattle.live_sets.proofs.plane_counts.mask_of.Goals as goal

pub loop-item-preserved : goal.loop-item-preserved
loop-item-preserved c i low =
    mask_more c.args.items.now c.loop-item.mask c.bit_of-mask.result c.loop-item.item-index c.args.first i c.loop-item-test.true (c.loop-item.invariant i low) (c.bit_of-mask.ensures i low)
