use Rattle.steal_return.proofs.Fewer.{dropped_few, finished_few, learnt_few, reached_few}
use Rattle.steal_return.proofs.laws.aborts_are_few.Goals as goal

pub returns : goal.returns
returns c = record { reached = reached_few; finished = finished_few; dropped = dropped_few; learnt = learnt_few }
