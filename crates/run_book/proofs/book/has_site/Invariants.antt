use Rattle.std.proofs.Common.{◌≡◌, drop}
use Rattle.run_book.specs.Books.{has_site}
use Rattle.run_book.proofs.book.has_site.Given as goal

abbrev pub invariant-loop-book : goal.invariant-loop-book
invariant-loop-book g l = has_site l.site (drop l.book-index l.books) ≡ has_site l.fn.site l.fn.books
