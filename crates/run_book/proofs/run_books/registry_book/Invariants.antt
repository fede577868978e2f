use Rattle.std.proofs.Common.{◌≡◌, drop}
use Rattle.run_book.specs.Runs.{registry_book}
use Rattle.run_book.proofs.run_books.registry_book.Given as goal

abbrev pub invariant-loop-book : goal.invariant-loop-book
invariant-loop-book g l = registry_book (drop l.book-index l.books) ≡ registry_book l.fn.books
