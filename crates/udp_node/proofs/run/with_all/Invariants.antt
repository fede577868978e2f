use Rattle.std.proofs.Common.{◌≡◌, ◌++◌}
use Rattle.std.specs.List.{All}
use Rattle.std.specs.Vec.Iter.{into_iter_items}
use Rattle.run_book.specs.Books.{IsBook}
use Rattle.udp_node.proofs.run.with_all.Given as goal

abbrev pub invariant-loop-book : goal.invariant-loop-book
invariant-loop-book g l = record {
  so_far : l.books.items ≡ l.fn.books.items ++ l.yielded;
  all : l.yielded ++ into_iter_items l.book-iterator ≡ l.fn.own.items;
  books : All (IsBook g.J.Run.run) l.books.items;
}
