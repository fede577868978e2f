use Rattle.std.proofs.Common.{◌≡◌, ℕ, not, ◌&&◌, drop}
use Rattle.option_sets.specs.Sets.{has, row_has}
use Rattle.option_sets.proofs.clear.clear_row.Given as goal

abbrev pub invariant-loop-word : goal.invariant-loop-word
invariant-loop-word l = (x : ℕ) → (has l.set x && not (row_has (drop l.word-index l.row) x)) ≡ (has l.fn.set x && not (row_has l.row x))
