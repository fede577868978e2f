use Rattle.abort_tree.proofs.Reaching.{aborts_both}
use Rattle.abort_tree.proofs.laws.same_tops_reach_the_same.Goals as goal

pub returns : goal.returns
returns c = aborts_both
