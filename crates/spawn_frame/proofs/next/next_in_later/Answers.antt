use Rattle.std.proofs.Common.{length, sym, ap, ◌∙◌, arith}
use Rattle.spawn_frame.specs.Pages.{has_wanted, next_wanted}
use Rattle.spawn_frame.proofs.Ahead.{page_found, page_none, page_unfound, past_pages}
use Rattle.spawn_frame.proofs.Filled.{page_begun}
use Rattle.spawn_frame.proofs.Paged.{has_some}
use Rattle.spawn_frame.proofs.next.next_in_later.Goals as goal
use Rattle.spawn_frame.proofs.next.next_in_later.Goals.{then-has+else-is_some, else-has}

pub first_of-requires : goal.first_of-requires
first_of-requires c =
    let p = c.index-pages-number in
    let wanted = ap (has_wanted c.args.wanted) (sym p.is) ∙ sym c.has.ensures ∙ c.if-has.true in
    omega (arith, page_begun c.args.pages.now c.loop-number.number p.result c.requires.filled c.loop-number-test.true (has_some c.args.wanted _ wanted), c.requires.small)

pub next_child-found-requires : goal.next_child-found-requires
next_child-found-requires c =
    let p = c.index-pages-number in
    let wanted = ap (has_wanted c.args.wanted) (sym p.is) ∙ sym c.has.ensures ∙ c.if-has.true in
    omega (arith, page_begun c.args.pages.now c.loop-number.number p.result c.requires.filled c.loop-number-test.true (has_some c.args.wanted _ wanted), c.requires.small, ap length (c.as_slice.ensures ∙ p.is))

pub returns-then-is_some : goal.returns-then-is_some
returns-then-is_some c =
    let p = c.index-pages-number in
    let number = c.loop-number.number in
    let is = c.next_child-found.ensures ∙ (λ i. next_wanted c.args.wanted (c.first_of.ensures i) ((c.as_slice.ensures ∙ p.is) i)) in
    page_found c.args.wanted c.args.pages.now number p.result _ c.requires.filled c.loop-number-test.true is (sym c.is_some.ensures ∙ c.if-is_some.true)
    ∙ c.loop-number.invariant

pub loop-number-preserved : goal.loop-number-preserved
loop-number-preserved c =
    let p = c.index-pages-number in
    let pages = c.args.pages.now in
    let number = c.loop-number.number in
    elim c.if-has.branch [
      | then-has+else-is_some w ↦
          let is = w.next_child-found.ensures ∙ (λ i. next_wanted c.args.wanted (w.first_of.ensures i) ((w.as_slice.ensures ∙ p.is) i)) in
          page_unfound c.args.wanted pages number p.result _ c.requires.filled c.loop-number-test.true is (sym w.is_some.ensures ∙ w.if-is_some.false)
          ∙ c.loop-number.invariant
      | else-has w ↦
          page_none c.args.wanted pages number p.result c.requires.filled c.loop-number-test.true (ap (has_wanted c.args.wanted) (sym p.is) ∙ sym c.has.ensures ∙ w.if-has.false)
          ∙ c.loop-number.invariant
    ]

pub returns : goal.returns
returns c =
    sym (past_pages c.args.wanted c.args.pages.now c.loop-number.number c.requires.filled (omega (arith, c.loop-number-test.false))) ∙ c.loop-number.invariant
