use Rattle.std.proofs.Common.{refl, sym, ◌∙◌, true≢false}
use Rattle.audit.proofs.Walking.{at_by, none_more, none_put_out, put_out_at}
use Rattle.audit.specs.Cursors.{IsPutOutBefore}
use Rattle.audit.proofs.put_out.was_put_out.Goals as goal

pub returns-then-has_put_out : goal.returns-then-has_put_out
returns-then-has_put_out g c =
    let h = at_by c.args.books.now c.args.cursors.now c.loop-k.k c.index-books-k.result c.requires c.loop-k-test.true c.index-books-k.is in
    (λ t. put_out_at c.args.books.now c.args.cursors.now c.args.packet.now c.loop-k.k c.index-books-k.result _ h (c.has_put_out.ensures.0 c.if-has_put_out.true), λ p. refl)

pub loop-k-preserved : goal.loop-k-preserved
loop-k-preserved g c =
    let h = at_by c.args.books.now c.args.cursors.now c.loop-k.k c.index-books-k.result c.requires c.loop-k-test.true c.index-books-k.is in
    none_more (λ book cursor. IsPutOutBefore book.entries cursor c.args.packet.now) c.args.books.now c.args.cursors.now c.loop-k.k c.index-books-k.result _ h.is h.at c.loop-k.invariant
    (λ p. true≢false (sym (c.has_put_out.ensures.1 p) ∙ c.if-has_put_out.false))

pub returns : goal.returns
returns g c = (
  λ f. absurd (true≢false (sym f)),
  λ p. absurd (none_put_out c.args.books.now c.args.cursors.now c.args.packet.now c.loop-k.k c.loop-k-test.false c.loop-k.invariant p),
)
