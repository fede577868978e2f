use Rattle.std.proofs.Common.{ℕ, ◌+◌, ◌≤◌, Bool, take}
use Rattle.option_sets.specs.Rows.{AreRowsBy, with_option}
use Rattle.option_sets.proofs.rows.add_tints.Given as goal

abbrev pub invariant-loop-tint : goal.invariant-loop-tint
invariant-loop-tint l = (n : ℕ) (has : ℕ → ℕ → Bool) → n ≤ l.option + 1 → AreRowsBy n has l.fn.rows
    → AreRowsBy (l.option + 1) (with_option has l.option (take l.tint-index l.tints)) l.rows
