use Rattle.std.proofs.Common.{arith}
use Rattle.std.proofs.lemmas.Option.{slice_get_within}
use Rattle.audit.proofs.Merging.{all_from}
use Rattle.run_book.specs.Books.{IsBook}
use Rattle.audit.proofs.missing.are_of_run.Goals as goal

pub returns : goal.returns
returns g c =
    all_from (IsBook g.J.Run.run) c.args.books.now
    (λ k book e. c.loop-book.invariant k book (omega (arith, slice_get_within c.args.books.now k book e, c.loop-book-test.false)) e)
