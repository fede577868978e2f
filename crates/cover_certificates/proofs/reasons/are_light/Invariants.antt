use Rattle.std.proofs.Common.{◌≡◌, ℕ, ◌<◌, true}
use Rattle.option_sets.specs.Sets.{has}
use Rattle.cover_reasons.specs.Weights.{is_zero, option_weight}
use Rattle.cover_certificates.proofs.reasons.are_light.Given as goal

abbrev pub invariant-loop-option : goal.invariant-loop-option
invariant-loop-option l = (o : ℕ) → o < l.option → has l.case.live o ≡ true → is_zero l.weights (option_weight l.problem l.weights o) ≡ true
