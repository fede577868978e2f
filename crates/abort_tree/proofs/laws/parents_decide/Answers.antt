use Rattle.abort_tree.proofs.Reaching.{marks_there}
use Rattle.abort_tree.proofs.laws.parents_decide.Goals as goal

pub returns : goal.returns
returns c = marks_there
