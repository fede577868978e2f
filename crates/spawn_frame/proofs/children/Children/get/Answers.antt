use Rattle.std.proofs.Common.{◌%◌, ◌<◌, get_or, length, slice_get, sym, ap, ◌∙◌, arith}
use Rattle.std.proofs.lemmas.Option.{slice_get_past}
use Rattle.spawn_frame.specs.Pages.{in_pages}
use Rattle.spawn_frame.proofs.Filled.{child_seen, page_within, place_within}
use Rattle.spawn_frame.proofs.children.Children.get.Goals as goal

pub index-requires : goal.index-requires
index-requires c =
    let pages = c.self.inside.pages.items in
    let there : c.args.serial < length (in_pages pages) = omega (arith, c.self.invariant.count, c.if-index-self.true) in
    omega (arith, page_within pages c.args.serial c.self.invariant.filled there)

pub bounds-as_slice-index : goal.bounds-as_slice-index
bounds-as_slice-index c =
    let pages = c.self.inside.pages.items in
    let there : c.args.serial < length (in_pages pages) = omega (arith, c.self.invariant.count, c.if-index-self.true) in
    omega (arith, place_within pages c.args.serial c.index.result.now c.self.invariant.filled there, ap length (c.as_slice.ensures ∙ c.index.ensures))

pub returns-then-index-self : goal.returns-then-index-self
returns-then-index-self c =
    let pages = c.self.inside.pages.items in
    let there : c.args.serial < length (in_pages pages) = omega (arith, c.self.invariant.count, c.if-index-self.true) in
    let at = c.index-as_slice-index.is ∙ ap (λ l. get_or l (c.args.serial % 256) c.index-as_slice-index.result) (c.as_slice.ensures ∙ c.index.ensures) in
    ap (λ l. slice_get l c.args.serial) (sym c.self.view_is)
    ∙ child_seen pages c.args.serial c.index.result.now c.index-as_slice-index.result c.self.invariant.filled there at

pub returns-else-index-self : goal.returns-else-index-self
returns-else-index-self c = slice_get_past c.args.self.now c.args.serial (omega (arith, c.self.invariant.count, c.if-index-self.false, ap length c.self.view_is))
