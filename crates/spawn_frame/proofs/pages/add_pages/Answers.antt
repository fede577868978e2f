use Rattle.std.proofs.Common.{◌++◌, ◌∷◌, [], length, length-append, subst, sym, ap, ◌∙◌, arith}
use Rattle.spawn_frame.specs.Pages.{AreFilled, in_pages}
use Rattle.spawn_frame.proofs.Filled.{page_added}
use Rattle.spawn_frame.proofs.pages.add_pages.Goals as goal

pub loop-page-preserved : goal.loop-page-preserved
loop-page-preserved c =
    let before = c.loop-page.invariant in
    let is = c.in_ok-push.ensures.items ∙ ap (λ page. c.loop-page.pages.items ++ page ∷ []) c.in_ok-new.ensures in
    let added = page_added c.loop-page.pages.items before.filled in
    record {
      filled = subst AreFilled (sym is) added.0;
      kept = ap in_pages is ∙ added.1 ∙ before.kept;
      length = omega (arith, before.length, ap length c.in_ok-push.ensures.items, length-append c.loop-page.pages.items (c.in_ok-new.field-0 ∷ []));
    }
