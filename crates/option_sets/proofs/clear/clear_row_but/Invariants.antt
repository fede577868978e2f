use Rattle.option_sets.proofs.Sparing.{IsClearing}
use Rattle.option_sets.proofs.clear.clear_row_but.Given as goal

abbrev pub invariant-loop-word : goal.invariant-loop-word
invariant-loop-word l = IsClearing l.fn.set l.row l.kept l.set l.word-index l.next
