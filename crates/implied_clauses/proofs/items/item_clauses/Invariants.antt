use Rattle.implied_clauses.proofs.Adding.{AreBelow}
use Rattle.implied_clauses.proofs.items.item_clauses.Given as goal

abbrev pub invariant-loop-option : goal.invariant-loop-option
invariant-loop-option l = AreBelow l.problem l.option l.clauses.items
