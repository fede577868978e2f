use Rattle.answer_engine.proofs.Firsts.{settled_is_won}
use Rattle.answer_engine.proofs.lanes.run_workers.Goals as goal

pub returns-in-Ok-Some : goal.returns-in-Ok-Some
returns-in-Ok-Some g c = settled_is_won c.args.problem.now c.in-Ok-Some.answer c.from.result (rw c.in-Ok-Some.field-0-is at c.in-Ok-Some.ensures)
