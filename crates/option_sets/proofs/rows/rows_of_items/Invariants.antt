use Rattle.std.proofs.Common.{◌≡◌, length}
use Rattle.option_sets.specs.Rows.{AreRowsBy, stands_below}
use Rattle.option_sets.proofs.rows.rows_of_items.Given as goal

abbrev pub invariant-loop-option : goal.invariant-loop-option
invariant-loop-option l = record {
  long : length l.rows.items ≡ length l.problem.names;
  each : AreRowsBy l.option (stands_below l.problem.options l.option) l.rows.items;
}
