use Rattle.std.proofs.Common.{◌%◌, ◌<◌, length, slice_get, sym, ap, ◌∙◌, arith}
use Rattle.spawn_frame.specs.Pages.{in_pages}
use Rattle.spawn_frame.specs.Works.{change_child, redone_work}
use Rattle.spawn_frame.proofs.Filled.{changed_count, changed_filled, page_changed, page_child, page_within, place_within}
use Rattle.spawn_frame.proofs.children.Children.redo.Goals as goal

pub index_mut-requires : goal.index_mut-requires
index_mut-requires c =
    let pages = c.self.inside.pages.items in
    let there : c.args.serial < length (in_pages pages) = omega (arith, ap length c.self.view_is, c.requires.within) in
    omega (arith, page_within pages c.args.serial c.self.invariant.filled there)

pub redo-requires-clause-within : goal.redo-requires-clause-within
redo-requires-clause-within c =
    let pages = c.self.inside.pages.items in
    let there : c.args.serial < length (in_pages pages) = omega (arith, ap length c.self.view_is, c.requires.within) in
    omega (arith, place_within pages c.args.serial c.index_mut.result.now c.self.invariant.filled there, ap length c.index_mut.ensures.value)

pub redo-requires-clause-attempt : goal.redo-requires-clause-attempt
redo-requires-clause-attempt c =
    let pages = c.self.inside.pages.items in
    let k = c.args.serial in
    let there : k < length (in_pages pages) = omega (arith, ap length c.self.view_is, c.requires.within) in
    let same = page_child pages k _ c.index_mut.result.now c.self.invariant.filled there c.index_mut.ensures.value in
    λ child at. c.requires.attempt child (ap (λ l. slice_get l k) (sym c.self.view_is) ∙ sym same ∙ at)

pub invariant_of-self : goal.invariant_of-self
invariant_of-self c =
    let pages = c.self.inside.pages.items in
    let k = c.args.serial in
    let there : k < length (in_pages pages) = omega (arith, ap length c.self.view_is, c.requires.within) in
    let is = c.redo.ensures ∙ ap (λ l. change_child redone_work l (k % 256)) c.index_mut.ensures.value in
    record { filled = changed_filled redone_work pages k _ c.index_mut.result.now c.self.invariant.filled there is; count = changed_count redone_work pages k _ _ c.index_mut.result.now c.self.invariant.filled there is c.self.invariant.count; small = c.self.invariant.small }

pub returns : goal.returns
returns c =
    let pages = c.self.inside.pages.items in
    let k = c.args.serial in
    let there : k < length (in_pages pages) = omega (arith, ap length c.self.view_is, c.requires.within) in
    let is = c.redo.ensures ∙ ap (λ l. change_child redone_work l (k % 256)) c.index_mut.ensures.value in
    page_changed redone_work pages k _ c.index_mut.result.now c.self.invariant.filled there is
    ∙ ap (λ l. change_child redone_work l k) c.self.view_is
