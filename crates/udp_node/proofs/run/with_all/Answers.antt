use Rattle.std.proofs.Common.{rules, ◌≡◌, ◌++◌, ◌∷◌, [], ap, sym, ◌∙◌}
use Rattle.std.proofs.lemmas.List.{append_assoc}
use Rattle.std.proofs.lemmas.List.Elements.{All-push}
use Rattle.std.specs.Vec.Iter.{into_iter_items}
use Rattle.run_book.specs.Books.{IsBook}
use Rattle.udp_node.proofs.run.with_all.Goals as goal

pub loop-book-preserved : goal.loop-book-preserved
loop-book-preserved g c =
    let i = c.loop-book.invariant in
    let so_far = c.loop-book.yielded in
    let book = c.in-Some.book in
    let rest = into_iter_items c.next.new.self in
    let pushed : c.push.new.self.items ≡ c.loop-book.books.items ++ book ∷ [] = search rules in
    let first : into_iter_items c.loop-book.book-iterator ≡ book ∷ rest = search rules in
    record {
      so_far = pushed ∙ ap (λ items. items ++ book ∷ []) i.so_far ∙ append_assoc c.args.books.items so_far (book ∷ []);
      all = append_assoc so_far (book ∷ []) rest ∙ ap (λ items. so_far ++ items) (sym first) ∙ i.all;
      books = rw pushed (All-push (IsBook g.J.Run.run) c.loop-book.books.items book i.books c.site-site.ensures.book);
    }
