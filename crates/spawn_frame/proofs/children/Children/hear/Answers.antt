use Rattle.std.proofs.Common.{◌%◌, ◌<◌, length, option_map, slice_get, subst, sym, ap, ◌∙◌, arith}
use Rattle.std.proofs.lemmas.Option.{slice_get_past}
use Rattle.spawn_frame.specs.Pages.{in_pages}
use Rattle.spawn_frame.specs.Works.{HearsFrom, change_child, child_work, frame_says, with_heard}
use Rattle.spawn_frame.proofs.Filled.{changed_count, changed_filled, page_changed, page_child, page_within, place_within}
use Rattle.spawn_frame.proofs.Places.{child_past}
use Rattle.spawn_frame.proofs.children.Children.hear.Goals as goal

pub returns-then-index-self-clause-own : goal.returns-then-index-self-clause-own
returns-then-index-self-clause-own c =
    child_past (with_heard c.args.child c.args.child_result.now) c.args.self.now c.args.serial (omega (arith, c.self.invariant.count, c.if-index-self.true, ap length c.self.view_is))

pub returns-then-index-self-clause-heard : goal.returns-then-index-self-clause-heard
returns-then-index-self-clause-heard c =
    let f = with_heard c.args.child c.args.child_result.now in
    let past = slice_get_past c.args.self.now c.args.serial (omega (arith, c.self.invariant.count, c.if-index-self.true, ap length c.self.view_is)) in
    ap (λ o. frame_says (option_map f (child_work o))) (sym past)

pub index_mut-requires : goal.index_mut-requires
index_mut-requires c =
    let pages = c.self.inside.pages.items in
    let there : c.args.serial < length (in_pages pages) = omega (arith, c.self.invariant.count, c.if-index-self.false) in
    omega (arith, page_within pages c.args.serial c.self.invariant.filled there)

pub hear-requires-clause-within : goal.hear-requires-clause-within
hear-requires-clause-within c =
    let pages = c.self.inside.pages.items in
    let there : c.args.serial < length (in_pages pages) = omega (arith, c.self.invariant.count, c.if-index-self.false) in
    omega (arith, place_within pages c.args.serial c.index_mut.result.now c.self.invariant.filled there, ap length c.index_mut.ensures.value)

pub hear-requires-clause-hears : goal.hear-requires-clause-hears
hear-requires-clause-hears c =
    let pages = c.self.inside.pages.items in
    let k = c.args.serial in
    let there : k < length (in_pages pages) = omega (arith, c.self.invariant.count, c.if-index-self.false) in
    let same = page_child pages k _ c.index_mut.result.now c.self.invariant.filled there c.index_mut.ensures.value in
    subst (λ o. HearsFrom (child_work o)) (ap (λ l. slice_get l k) (sym c.self.view_is) ∙ sym same) c.requires

pub invariant_of-self : goal.invariant_of-self
invariant_of-self c =
    let pages = c.self.inside.pages.items in
    let k = c.args.serial in
    let f = with_heard c.args.child c.args.child_result.now in
    let there : k < length (in_pages pages) = omega (arith, c.self.invariant.count, c.if-index-self.false) in
    let is = c.hear.ensures.own ∙ ap (λ l. change_child f l (k % 256)) c.index_mut.ensures.value in
    record { filled = changed_filled f pages k _ c.index_mut.result.now c.self.invariant.filled there is; count = changed_count f pages k _ _ c.index_mut.result.now c.self.invariant.filled there is c.self.invariant.count; small = c.self.invariant.small }

pub returns-clause-own : goal.returns-clause-own
returns-clause-own c =
    let pages = c.self.inside.pages.items in
    let k = c.args.serial in
    let f = with_heard c.args.child c.args.child_result.now in
    let there : k < length (in_pages pages) = omega (arith, c.self.invariant.count, c.if-index-self.false) in
    let is = c.hear.ensures.own ∙ ap (λ l. change_child f l (k % 256)) c.index_mut.ensures.value in
    page_changed f pages k _ c.index_mut.result.now c.self.invariant.filled there is
    ∙ ap (λ l. change_child f l k) c.self.view_is

pub returns-clause-heard : goal.returns-clause-heard
returns-clause-heard c =
    let pages = c.self.inside.pages.items in
    let k = c.args.serial in
    let f = with_heard c.args.child c.args.child_result.now in
    let there : k < length (in_pages pages) = omega (arith, c.self.invariant.count, c.if-index-self.false) in
    let same = page_child pages k _ c.index_mut.result.now c.self.invariant.filled there c.index_mut.ensures.value in
    c.hear.ensures.heard
    ∙ ap (λ o. frame_says (option_map f (child_work o))) (same ∙ ap (λ l. slice_get l k) c.self.view_is)
