use Rattle.std.proofs.Common.{◌≡◌, drop}
use Rattle.run_book.specs.Books.{are_distinct}
use Rattle.run_book.proofs.book.distinct_sites.Given as goal

abbrev pub invariant-loop-at : goal.invariant-loop-at
invariant-loop-at g l = are_distinct (drop l.at l.books) ≡ are_distinct l.fn.books
