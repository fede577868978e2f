use Rattle.std.proofs.Common.{◌-◌, ◌*◌, ◌∙◌, ap, arith}
use Rattle.std.specs.List.{range_with_len}
use Rattle.dancing_links.proofs.Keyed.{counting_start, counting_end}
use Rattle.dancing_links.proofs.keys.build_keys.Goals as goal

pub loop-node-init : goal.loop-node-init
loop-node-init c =
    let t = c.heads-heads.ensures.table in
    counting_start c.args.layout.now c.in_ok-keys.keys.items (2 * c.heads-heads.result - 1) t (c.in_ok-keys.ensures ∙ ap (λ n. range_with_len 0 (n - 1)) c.heads-heads.ensures.heads) (omega (arith, t.some, c.heads-heads.ensures.heads))

pub returns : goal.returns
returns c = counting_end c.args.layout.now c.loop-node.keys.items c.loop-node.node (omega (arith, c.loop-node-test.false, c.tails-node-end.ensures.tails)) c.loop-node.invariant
