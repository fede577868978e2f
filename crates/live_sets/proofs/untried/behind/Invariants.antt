use Rattle.live_sets.proofs.Behind.{IsPassing}
use Rattle.live_sets.proofs.untried.behind.Given as goal

abbrev pub invariant-loop-step : goal.invariant-loop-step
invariant-loop-step l = IsPassing l.row l.live l.option l._step l.untried
