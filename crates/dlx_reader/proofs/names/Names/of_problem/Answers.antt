use Rattle.std.proofs.Common.{◌<◌, length, arith}
use Rattle.dlx_reader.proofs.KeyNames.{name_fresh}
use Rattle.dlx_reader.proofs.names.Names.of_problem.Goals as goal

pub push-requires-clause-fresh : goal.push-requires-clause-fresh
push-requires-clause-fresh c =
    let names = c.args.problem.now.names in
    let inside : c.loop-item.item < length names = omega (arith, c.loop-item-test.true, c.items-item-end.ensures.count) in
    rw c.loop-item.invariant (name_fresh names c.loop-item.item c.name.result.now c.items-item-end.ensures.problem.distinct_names inside c.name.ensures)
