use Rattle.std.proofs.Common.{rules}
use Rattle.case_reasons.proofs.Growing.{each_more, each_same, hold_more}
use Rattle.case_reasons.proofs.finding.cases_of.Goals as goal
use Rattle.case_reasons.proofs.finding.cases_of.Goals.{then-option_names+in_ok-case+in-Some+in_ok-push-in-Some, else-option_names}

pub loop-option-preserved : goal.loop-option-preserved
loop-option-preserved g c = elim c.if-option_names.branch [
  | then-option_names+in_ok-case+in-Some+in_ok-push-in-Some w ↦ record { each = each_more c.args.problem.now c.args.item c.loop-option.list.items _ c.loop-option.option w.in-Some.case c.loop-option.invariant.each (search rules) (search rules) (search rules); hold = search (rules, hold_more); known = search rules }
  | else-option_names w ↦ record { each = each_same c.args.problem.now c.args.item c.loop-option.list.items _ c.loop-option.option c.loop-option.invariant.each (search rules) (search rules); hold = search rules; known = search rules }
]
