use Rattle.option_sets.proofs.Keeping.{AreFirstKept}
use Rattle.option_sets.proofs.kept.bar_each.Given as goal

abbrev pub invariant-loop-option : goal.invariant-loop-option
invariant-loop-option l = AreFirstKept l.tables l.words l.fn.sets l.sets l.option
