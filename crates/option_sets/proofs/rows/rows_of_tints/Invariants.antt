use Rattle.std.proofs.Common.{◌≡◌, length}
use Rattle.option_sets.specs.Rows.{AreRowsBy, stands_below}
use Rattle.option_sets.proofs.rows.rows_of_tints.Given as goal

abbrev pub invariant-loop-option : goal.invariant-loop-option
invariant-loop-option l = record {
  long : length l.rows.items ≡ l.count;
  each : AreRowsBy l.option (stands_below l.lists l.option) l.rows.items;
}
