use Rattle.std.proofs.Common.{refl}
use Rattle.dancing_links.proofs.Least.{least_step}
use Rattle.dancing_links.proofs.keys.least_after.Goals as goal

pub loop-key-preserved : goal.loop-key-preserved
loop-key-preserved c = least_step c.args.keys.now c.loop-key.key-index _ c.args.start c.loop-key.least c.lesser-least.result c.loop-key-test.true refl c.loop-key.invariant c.lesser-least.ensures
