use Rattle.cover_reasons.specs.declared.reason.Reason.TheVariants as reasons
use Rattle.cover_reasons.proofs.reason_finder.find_short_reason_until.Goals as goal

pub returns-in-Some-clause-barren : goal.returns-in-Some-clause-barren
returns-in-Some-clause-barren g c = λ chosen cover over.
    c.reasons_exclude_covers.ensures.cover c.args.problem.now (reasons.TooLittleRoom c.in-Some.room) chosen c.recall_rules.ensures (rw c.in-Some.is at c.in_ok-room.ensures) cover

pub returns-in-Some-2-clause-barren : goal.returns-in-Some-2-clause-barren
returns-in-Some-2-clause-barren g c = λ chosen cover over.
    c.reasons_exclude_covers.ensures.cover c.args.problem.now (reasons.Weighed c.in-Some-2.weights) chosen c.recall_rules.ensures (rw c.in-Some-2.is at c.in_ok-weights.ensures) cover
