use Rattle.std.proofs.Common.{arith}
use Rattle.dancing_links.proofs.Keyed.{counting_step, counting_fits}
use Rattle.dancing_links.proofs.keys.count_node.Goals as goal

pub overflow_add-keys : goal.overflow_add-keys
overflow_add-keys c =
    let fits = counting_fits c.args.layout.now c.args.keys.now c.args.node c.item_at-item.result c.item_at-item.ensures.table c.requires.node.0 c.requires.node.1 c.item_at-item.ensures.item c.requires.before in
    omega (arith, fits)

pub returns : goal.returns
returns c = record {
  after = counting_step c.args.layout.now c.args.keys.now c.args.node c.item_at-item.result c.item_at-item.ensures.table c.requires.node.0 c.requires.node.1 c.item_at-item.ensures.item c.requires.before;
}
