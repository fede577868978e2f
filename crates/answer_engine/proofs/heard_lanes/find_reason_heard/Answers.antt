use Rattle.reason_engine.specs.declared.cause.Cause.TheVariants as causes
use Rattle.answer_engine.proofs.Firsts.{cause_is_won}
use Rattle.answer_engine.proofs.heard_lanes.find_reason_heard.Goals as goal

pub returns-in-Ok-Some : goal.returns-in-Ok-Some
returns-in-Ok-Some g c =
    cause_is_won c.args.problem.now (causes.AsItStands c.in-Ok-Some.reason) (rw c.in-Ok-Some.field-0-is at c.in-Ok-Some.ensures.holds)
    (rw c.in-Ok-Some.field-0-is at c.in-Ok-Some.ensures.barren)
