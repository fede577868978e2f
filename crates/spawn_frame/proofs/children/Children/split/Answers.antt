use Rattle.std.proofs.Common.{◌%◌, ◌<◌, length, ap, ◌∙◌, arith}
use Rattle.spawn_frame.specs.Pages.{in_pages}
use Rattle.spawn_frame.specs.Works.{change_child, split_work}
use Rattle.spawn_frame.proofs.Filled.{changed_count, changed_filled, page_changed, page_within, place_within}
use Rattle.spawn_frame.proofs.Places.{child_past}
use Rattle.spawn_frame.proofs.children.Children.split.Goals as goal

pub index_mut-requires : goal.index_mut-requires
index_mut-requires c =
    let pages = c.self.inside.pages.items in
    let there : c.args.serial < length (in_pages pages) = omega (arith, c.self.invariant.count) in
    omega (arith, page_within pages c.args.serial c.self.invariant.filled there)

pub split-requires-clause-within : goal.split-requires-clause-within
split-requires-clause-within c =
    let pages = c.self.inside.pages.items in
    let there : c.args.serial < length (in_pages pages) = omega (arith, c.self.invariant.count) in
    omega (arith, place_within pages c.args.serial c.index_mut.result.now c.self.invariant.filled there, ap length c.index_mut.ensures.value)

pub invariant_of-self : goal.invariant_of-self
invariant_of-self c =
    let pages = c.self.inside.pages.items in
    let k = c.args.serial in
    let there : k < length (in_pages pages) = omega (arith, c.self.invariant.count) in
    let is = c.split.ensures ∙ ap (λ l. change_child (split_work c.args.first c.args.count) l (k % 256)) c.index_mut.ensures.value in
    record { filled = changed_filled (split_work c.args.first c.args.count) pages k _ c.index_mut.result.now c.self.invariant.filled there is; count = changed_count (split_work c.args.first c.args.count) pages k _ _ c.index_mut.result.now c.self.invariant.filled there is c.self.invariant.count; small = c.self.invariant.small }

pub returns-then-index-self : goal.returns-then-index-self
returns-then-index-self c =
    let pages = c.self.inside.pages.items in
    let k = c.args.serial in
    let there : k < length (in_pages pages) = omega (arith, c.self.invariant.count) in
    let is = c.split.ensures ∙ ap (λ l. change_child (split_work c.args.first c.args.count) l (k % 256)) c.index_mut.ensures.value in
    page_changed (split_work c.args.first c.args.count) pages k _ c.index_mut.result.now c.self.invariant.filled there is
    ∙ ap (λ l. change_child (split_work c.args.first c.args.count) l k) c.self.view_is

pub returns-else-index-self : goal.returns-else-index-self
returns-else-index-self c = child_past (split_work c.args.first c.args.count) c.args.self.now c.args.serial (omega (arith, c.self.invariant.count, ap length c.self.view_is))
