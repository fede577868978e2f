use Rattle.std.proofs.Common.{length, ap, arith, ◌∙◌, vec_len}
use Rattle.std.specs.List.{range_with_len}
use Rattle.dancing_links.proofs.Building.{building_start, building_all}
use Rattle.dancing_links.proofs.Laid.{resized}
use Rattle.dancing_links.proofs.build.build_links.Goals as goal

pub loop-node-init : goal.loop-node-init
loop-node-init c =
    let t = c.heads-heads.ensures.table in
    rw c.heads-heads.ensures.heads (building_start c.args.layout.now c.in_ok-lasts.lasts.items c.resize.new.self.items t (c.in_ok-lasts.ensures ∙ ap (range_with_len 0) c.heads-heads.ensures.heads) (c.in_ok-resize.ensures.items ∙ resized c.new-links.result.items (length c.places-count.result.now) (vec_len c.new-links.result) (length c.args.layout.now.column) (record { up = 0; down = 0 }) c.new-links.ensures.items c.new-links.ensures.len (ap length c.places-count.ensures.places ∙ t.place)))

pub returns : goal.returns
returns c =
    let t = c.heads-heads.ensures.table in
    let size = ap length c.places-count.ensures.places ∙ t.place in
    let inside = c.loop-node.auto.node-end (omega (arith, size, t.ends, c.heads-heads.ensures.heads)) in
    building_all c.args.layout.now c.loop-node.node c.loop-node.lasts.items c.loop-node.links.items t (omega (arith, c.loop-node-test.false, inside, size)) c.loop-node.invariant
