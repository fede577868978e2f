use Rattle.option_sets.proofs.Filling.{all_bits, low_bits}
use Rattle.option_sets.proofs.sets.word_below.Goals as goal

pub returns-then-count-ge64 : goal.returns-then-count-ge64
returns-then-count-ge64 c k low = all_bits k c.args.count low c.if-count-ge64.true

pub returns : goal.returns
returns c k low = low_bits k c.args.count c.if-count-ge64.false
