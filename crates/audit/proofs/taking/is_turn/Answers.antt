use Rattle.std.proofs.Common.{refl, sym, ◌∙◌, true≢false}
use Rattle.audit.proofs.Walking.{at_by, none_at, none_more}
use Rattle.audit.specs.Cursors.{HoldsUp}
use Rattle.audit.proofs.taking.is_turn.Goals as goal

pub returns-then-holds_up : goal.returns-then-holds_up
returns-then-holds_up g c =
    let h = at_by c.args.books.now c.args.cursors.now c.loop-k.k c.index-books-k.result c.requires c.loop-k-test.true c.index-books-k.is in
    (λ f. absurd (true≢false (sym f)), λ turn. absurd (turn c.loop-k.k c.index-books-k.result _ h.is h.at (c.holds_up.ensures.0 c.if-holds_up.true)))

pub loop-k-preserved : goal.loop-k-preserved
loop-k-preserved g c =
    let h = at_by c.args.books.now c.args.cursors.now c.loop-k.k c.index-books-k.result c.requires c.loop-k-test.true c.index-books-k.is in
    none_more (HoldsUp c.args.site) c.args.books.now c.args.cursors.now c.loop-k.k c.index-books-k.result _ h.is h.at c.loop-k.invariant
    (λ p. true≢false (sym (c.holds_up.ensures.1 p) ∙ c.if-holds_up.false))

pub returns : goal.returns
returns g c = (λ t. none_at (HoldsUp c.args.site) c.args.books.now c.args.cursors.now c.loop-k.k c.loop-k-test.false c.loop-k.invariant, λ h. refl)
