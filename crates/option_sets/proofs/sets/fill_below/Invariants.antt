use Rattle.std.proofs.Common.{◌≡◌, ℕ, ◌<◌, ◌/◌, nat_lt}
use Rattle.option_sets.specs.Sets.{has}
use Rattle.option_sets.proofs.sets.fill_below.Given as goal

abbrev pub invariant-loop-place : goal.invariant-loop-place
invariant-loop-place l = (x : ℕ) → x / 64 < l.place → has l.set x ≡ nat_lt x l.options
