use Rattle.answer_engine.proofs.Firsts.{search_is_won}
use Rattle.answer_engine.proofs.answer.search_alone.Goals as goal

pub returns : goal.returns
returns c = search_is_won c.args.problem.now c.in-Some.answer c.search_until.new.watch.states (rw c.in-Some.is at c.in_ok-answer.ensures.answer)
