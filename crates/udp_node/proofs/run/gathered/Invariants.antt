use Rattle.std.proofs.Common.{length}
use Rattle.std.specs.List.{All}
use Rattle.std.specs.Vec.Iter.{into_iter_items}
use Rattle.run_book.specs.Books.{IsBook}
use Rattle.udp_node.proofs.Gathering.{AreGathered, NumberedFrom}
use Rattle.udp_node.proofs.run.gathered.Given as goal

abbrev pub invariant-loop-site : goal.invariant-loop-site
invariant-loop-site g l = record {
  rest : NumberedFrom (λ site. site.node) (length l.yielded) (into_iter_items l.site-iterator);
  gathered : AreGathered (length l.yielded) 1 l.books.items;
  books : All (IsBook g.J.Run.run) l.books.items;
}
