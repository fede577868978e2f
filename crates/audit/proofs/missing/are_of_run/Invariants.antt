use Rattle.std.proofs.Common.{◌≡◌, ℕ, ◌<◌, Some, slice_get}
use Rattle.run_book.specs.Books.{Book, IsBook}
use Rattle.audit.proofs.missing.are_of_run.Given as goal

abbrev pub invariant-loop-book : goal.invariant-loop-book
invariant-loop-book g l = (k : ℕ) (book : Book) → k < l.book-index → slice_get l.books k ≡ Some book → IsBook g.J.Run.run book
