use Rattle.std.proofs.Common.{◌+◌, sym, ap, ◌∙◌, arith}
use Rattle.spawn_frame.specs.Pages.{has_wanted}
use Rattle.spawn_frame.proofs.Paged.{count_fits, counted, page_counted, page_uncounted}
use Rattle.spawn_frame.proofs.pages.count_in_pages.Goals as goal
use Rattle.spawn_frame.proofs.pages.count_in_pages.Goals.{then-has, else-has}

pub overflow_add-count : goal.overflow_add-count
overflow_add-count c =
    let p = c.page-item in
    let is = c.count_wanted-count.ensures ∙ ap (counted c.args.wanted) (c.as_slice.ensures ∙ p.is) in
    omega (arith, is, c.loop-page.invariant, c.requires, count_fits c.args.wanted c.args.pages.now c.loop-page.page-index p.result c.loop-page-test.true)

pub loop-page-preserved : goal.loop-page-preserved
loop-page-preserved c =
    let p = c.page-item in
    let pages = c.args.pages.now in
    let index = c.loop-page.page-index in
    elim c.if-has.branch [
      | then-has w ↦
          let is = w.count_wanted-count.ensures ∙ ap (counted c.args.wanted) (w.as_slice.ensures ∙ p.is) in
          w.count-is ∙ (λ i. c.loop-page.invariant i + is i) ∙ page_counted c.args.wanted pages index p.result c.loop-page-test.true
      | else-has w ↦
          let none = ap (has_wanted c.args.wanted) (sym p.is) ∙ sym c.has.ensures ∙ w.if-has.false in
          w.count-is ∙ c.loop-page.invariant ∙ page_uncounted c.args.wanted pages index p.result c.loop-page-test.true none
    ]
