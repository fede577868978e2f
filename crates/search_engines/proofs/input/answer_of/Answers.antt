use Rattle.search_engines.proofs.Listed.{answer_listed}
use Rattle.search_engines.proofs.input.answer_of.Goals as goal

pub returns-in-Ok-clause-listed : goal.returns-in-Ok-clause-listed
returns-in-Ok-clause-listed c = answer_listed c.args.text.now c.args.problem.now c.in-Ok.answer c.in-Ok.ensures.answer
