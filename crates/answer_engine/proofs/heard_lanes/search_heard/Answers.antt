use Rattle.answer_engine.proofs.Firsts.{search_is_won}
use Rattle.answer_engine.proofs.heard_lanes.search_heard.Goals as goal

pub returns-in-Some : goal.returns-in-Some
returns-in-Some g c = search_is_won c.args.problem.now c.in-Some.answer c.certified_until.new.watch.states (rw c.in-Some.is at c.in_ok-answer.ensures.answer)
