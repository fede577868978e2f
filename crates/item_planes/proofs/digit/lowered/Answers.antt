use Rattle.item_planes.proofs.Binary.{digit_lowered}
use Rattle.item_planes.proofs.digit.lowered.Goals as goal

pub returns : goal.returns
returns c i inside = digit_lowered c.args.digits c.args.borrow i
