use Rattle.std.proofs.Common.{◌≡◌, ℕ, false, ◌&&◌, take}
use Rattle.option_sets.specs.Sets.{has, row_has}
use Rattle.live_sets.proofs.untried.first_word.Given as goal

abbrev pub invariant-loop-index : goal.invariant-loop-index
invariant-loop-index l = (x : ℕ) → (row_has (take l.index l.row) x && has l.live x) ≡ false
