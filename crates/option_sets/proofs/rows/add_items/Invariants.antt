use Rattle.std.proofs.Common.{ℕ, ◌+◌, ◌≤◌, Bool, take}
use Rattle.option_sets.specs.Rows.{AreRowsBy, with_option}
use Rattle.option_sets.proofs.rows.add_items.Given as goal

abbrev pub invariant-loop-item : goal.invariant-loop-item
invariant-loop-item l = (n : ℕ) (has : ℕ → ℕ → Bool) → n ≤ l.option + 1 → AreRowsBy n has l.fn.rows
    → AreRowsBy (l.option + 1) (with_option has l.option (take l.item-index l.items)) l.rows
