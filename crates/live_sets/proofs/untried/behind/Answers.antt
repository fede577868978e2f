use Rattle.std.proofs.Common.{arith}
use Rattle.live_sets.proofs.Behind.{passing_none, passing_next, behind_all, behind_next, behind_none}
use Rattle.live_sets.proofs.untried.behind.Goals as goal

pub loop-step-init : goal.loop-step-init
loop-step-init c = passing_none c.args.row.now c.args.live.now c.args.option c.of_row-untried.result c.requires.row c.of_row-untried.ensures.bits c.of_row-untried.ensures.later

pub next-requires-clause-trying : goal.next-requires-clause-trying
next-requires-clause-trying c = c.loop-step.invariant.trying

pub returns-in-None : goal.returns-in-None
returns-in-None c = behind_none c.args.row.now c.args.live.now c.args.option c.loop-step._step c.loop-step.untried c.loop-step.invariant (λ x. c.in-None.ensures x)

pub returns-then-next-option : goal.returns-then-next-option
returns-then-next-option c =
    behind_next c.args.row.now c.args.live.now c.args.option c.loop-step._step c.in-Some.next c.loop-step.untried c.in-Some.rest c.loop-step.invariant c.in-Some.ensures c.if-next-option.true

pub loop-step-preserved : goal.loop-step-preserved
loop-step-preserved c =
    passing_next c.args.row.now c.args.live.now c.args.option c.loop-step._step c.in-Some.next c.loop-step.untried c.in-Some.rest c.loop-step.invariant c.in-Some.ensures c.if-next-option.false

pub returns : goal.returns
returns c = behind_all c.args.row.now c.args.live.now c.args.option c.loop-step._step c.loop-step.untried c.loop-step.invariant (omega arith)
