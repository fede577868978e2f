use Rattle.std.proofs.Common.{ℕ, ◌<◌, length, get_or, bit_or, arith}
use Rattle.std.proofs.lemmas.List.{length-set}
use Rattle.std.proofs.lemmas.List.Elements.{All-get_or}
use Rattle.live_sets.proofs.Marked.{marked_more, kept_more}
use Rattle.live_sets.proofs.keys.mark_items.Goals as goal

pub loop-item-preserved : goal.loop-item-preserved
loop-item-preserved c =
    let n : ℕ = c.loop-item.item-index in
    let inside : c.loop-item.item-index < length c.args.items.now = omega arith in
    let below = All-get_or (λ i. i < length c.args.keys.now) c.args.items.now c.loop-item.item-index 0 inside c.requires in
    let low : get_or c.args.items.now c.loop-item.item-index 0 < length c.loop-item.keys = omega (arith, below, c.loop-item.auto.keys) in
    record {
      long = omega (arith, length-set c.loop-item.keys (get_or c.args.items.now c.loop-item.item-index 0) (bit_or (get_or c.loop-item.keys (get_or c.args.items.now c.loop-item.item-index 0) 0) 2147483648), c.loop-item.auto.keys);
      marked = marked_more c.args.items.now c.args.keys.now c.loop-item.keys n inside low c.loop-item.invariant.marked;
      kept = kept_more c.args.items.now c.args.keys.now c.loop-item.keys n inside low c.loop-item.invariant.kept;
    }
