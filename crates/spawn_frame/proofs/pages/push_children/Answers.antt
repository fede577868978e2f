use Rattle.std.proofs.Common.{◌≡◌, ◌+◌, ◌/◌, ◌++◌, ◌∷◌, [], length, length-set, map, take, slice_set, subst, sym, ap, ◌∙◌, arith}
use Rattle.std.proofs.lemmas.List.{append_assoc}
use Rattle.spawn_frame.specs.Pages.{AreFilled, in_pages}
use Rattle.spawn_frame.specs.Tables.{longer_prefixes}
use Rattle.spawn_frame.specs.Works.{fresh_child}
use Rattle.spawn_frame.proofs.Filled.{page_pushed, page_room}
use Rattle.spawn_frame.proofs.Grown.{children_count, children_more}
use Rattle.spawn_frame.proofs.pages.push_children.Goals as goal

pub push-requires : goal.push-requires
push-requires c =
    let pages = c.loop-place.pages in
    let before = c.loop-place.invariant in
    let k = c.args.first + c.loop-place.place in
    let count : k ≡ length (in_pages pages) = children_count c.args.unit c.args.path.now.options c.args.options.now c.loop-place.place c.args.first (in_pages c.args.pages.now) (in_pages pages) c.loop-place-test.true c.requires.first before.children in
    page_room pages k c.index-pages-first.result before.filled count (omega (arith, c.requires.room, c.loop-place-test.true, before.length))

pub loop-place-preserved : goal.loop-place-preserved
loop-place-preserved c =
    let pages = c.loop-place.pages in
    let before = c.loop-place.invariant in
    let k = c.args.first + c.loop-place.place in
    let unit = c.args.unit in
    let path = c.args.path.now.options in
    let options = c.args.options.now in
    let own = in_pages c.args.pages.now in
    let so_far = map (fresh_child unit) (longer_prefixes path (take c.loop-place.place options)) in
    let count : k ≡ length (in_pages pages) = children_count unit path options c.loop-place.place c.args.first own (in_pages pages) c.loop-place-test.true c.requires.first before.children in
    let pushed = page_pushed pages k c.new_child.result c.index-pages-first.result count (omega (arith, c.requires.room, c.loop-place-test.true, before.length)) before.filled in
    let written = ap (slice_set pages (k / 256)) c.push.ensures in
    record {
      filled = subst AreFilled (sym written) pushed.0;
      children =
          ap in_pages written ∙ pushed.1
          ∙ (λ i. before.children i ++ c.new_child.ensures i ∷ [])
          ∙ append_assoc own so_far _
          ∙ ap (λ l. own ++ l) (sym (children_more unit path options c.loop-place.place c.loop-place-test.true));
      length = length-set pages (k / 256) c.push.new.self ∙ before.length;
    }
