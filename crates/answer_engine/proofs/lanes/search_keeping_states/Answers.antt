use Rattle.answer_engine.proofs.Firsts.{search_is_won}
use Rattle.answer_engine.proofs.lanes.search_keeping_states.Goals as goal

pub returns-in-Some : goal.returns-in-Some
returns-in-Some g c = search_is_won c.args.problem.now c.in-Some.answer c.search_until.new.watch.states (rw c.in-Some.is at c.in_ok-answer.ensures.answer)
