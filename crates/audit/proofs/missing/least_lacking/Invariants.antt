use Rattle.std.proofs.Common.{◌≡◌, drop}
use Rattle.audit.specs.Lacking.{least_lacking, missed_in}
use Rattle.audit.proofs.missing.least_lacking.Given as goal

abbrev pub invariant-loop-book : goal.invariant-loop-book
invariant-loop-book g l = missed_in l.fn.books (drop l.book-index l.books) l.least ≡ least_lacking l.fn.books
