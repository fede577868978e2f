use Rattle.std.proofs.Common.{◌≡◌, ℕ, ◌<◌, true}
use Rattle.option_sets.specs.Sets.{has}
use Rattle.cover_reasons.specs.Room.{fits}
use Rattle.cover_certificates.proofs.reasons.all_fit.Given as goal

abbrev pub invariant-loop-option : goal.invariant-loop-option
invariant-loop-option l = (o : ℕ) → o < l.option → has l.case.live o ≡ true → fits l.problem l.room o ≡ true
