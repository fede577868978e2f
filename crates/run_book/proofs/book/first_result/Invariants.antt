use Rattle.std.proofs.Common.{◌≡◌, drop}
use Rattle.run_book.specs.Answers.{first_result}
use Rattle.run_book.proofs.book.first_result.Given as goal

abbrev pub invariant-loop-entry : goal.invariant-loop-entry
invariant-loop-entry l = first_result (drop l.entry-index l.entries) ≡ first_result l.fn.entries
