use Rattle.std.proofs.Common.{◌≡◌, take, length}
use Rattle.implied_clauses.proofs.Adding.{AreAdded}
use Rattle.implied_clauses.proofs.items.add_option.Given as goal

abbrev pub invariant-loop-item : goal.invariant-loop-item
invariant-loop-item l = record {
  long : length l.clauses ≡ length l.fn.clauses;
  each : AreAdded l.option (take l.item-index l.item-items) l.fn.clauses l.clauses;
}
