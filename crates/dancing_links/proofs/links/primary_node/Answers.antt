use Rattle.dancing_links.proofs.Primary.{primary_node}
use Rattle.dancing_links.proofs.Ranges.{first_room, range_of}
use Rattle.dancing_links.proofs.links.primary_node.Goals as goal

pub node_range-begin-requires : goal.node_range-begin-requires
node_range-begin-requires c = first_room c.args.problem.now c.args.layout.now c.args.option c.requires.layout c.requires.option

pub node_below-requires : goal.node_below-requires
node_below-requires c =
    let range = range_of c.args.problem.now c.args.layout.now c.args.option c.node_range-begin.result.0 c.node_range-begin.result.1 c.requires.layout c.requires.option c.node_range-begin.ensures.begin c.node_range-begin.ensures.end in
    record { range = (range.low, range.order, range.high) }

pub returns : goal.returns
returns c = primary_node c.args.problem.now c.args.layout.now c.args.option c.node_range-begin.result.0 c.node_range-begin.result.1 c.node_below.result c.primary.result c.requires.layout c.primary.ensures.problem c.requires.option c.node_range-begin.ensures.begin c.node_range-begin.ensures.end c.primary.ensures.count c.node_below.ensures
