use Rattle.std.proofs.Common.{◌/◌, ◌%◌, drop, length, sym, ap, ◌∙◌, arith}
use Rattle.std.proofs.lemmas.List.{length-drop, take_rest}
use Rattle.spawn_frame.specs.Pages.{next_wanted}
use Rattle.spawn_frame.proofs.Ahead.{rest_found, rest_unfound}
use Rattle.spawn_frame.proofs.Filled.{page_length, page_within, place_within}
use Rattle.spawn_frame.proofs.next.next_in_pages.Goals as goal

pub bounds-pages-number : goal.bounds-pages-number
bounds-pages-number c = page_within c.args.pages.now c.args.from c.requires.filled c.requires.there

pub slice_bounds-next_child-count : goal.slice_bounds-next_child-count
slice_bounds-next_child-count c =
    let p = c.index-pages-number in
    omega (arith, place_within c.args.pages.now c.args.from p.result c.requires.filled c.requires.there, ap length (c.as_slice-children.ensures ∙ p.is))

pub slice_bounds-next_child-start : goal.slice_bounds-next_child-start
slice_bounds-next_child-start c =
    let p = c.index-pages-number in
    omega (arith, place_within c.args.pages.now c.args.from p.result c.requires.filled c.requires.there, ap length (c.as_slice-children.ensures ∙ p.is))

pub next_child-found-requires : goal.next_child-found-requires
next_child-found-requires c =
    let p = c.index-pages-number in
    let pages = c.args.pages.now in
    let from = c.args.from in
    let children = c.as_slice-children.result.now in
    omega (arith, c.requires.small, c.requires.there, page_length pages (from / 256) p.result c.requires.filled (page_within pages from c.requires.filled c.requires.there), ap length (c.as_slice-children.ensures ∙ p.is), ap length (take_rest children (from % 256)), length-drop (from % 256) children)

pub returns-then-is_some : goal.returns-then-is_some
returns-then-is_some c =
    let p = c.index-pages-number in
    let from = c.args.from in
    let children = c.as_slice-children.result.now in
    let is = c.next_child-found.ensures ∙ ap (next_wanted c.args.wanted from) (take_rest children (from % 256) ∙ ap (drop (from % 256)) (c.as_slice-children.ensures ∙ p.is)) in
    rest_found c.args.wanted c.args.pages.now from p.result _ c.requires.filled c.requires.there is (sym c.is_some.ensures ∙ c.if-is_some.true)

pub returns : goal.returns
returns c =
    let p = c.index-pages-number in
    let from = c.args.from in
    let children = c.as_slice-children.result.now in
    let is = c.next_child-found.ensures ∙ ap (next_wanted c.args.wanted from) (take_rest children (from % 256) ∙ ap (drop (from % 256)) (c.as_slice-children.ensures ∙ p.is)) in
    c.next_in_later.ensures ∙ rest_unfound c.args.wanted c.args.pages.now from p.result _ c.requires.filled c.requires.there is (sym c.is_some.ensures ∙ c.if-is_some.false)
