use Rattle.std.proofs.Common.{◌≡◌, ◌+◌, ◌-◌, ◌<◌, ◌∙◌, ap, length, get_or, [], arith}
use Rattle.dlx_reader.proofs.KeyNames.{name_fresh}
use Rattle.dlx_reader.proofs.names.Names.of_colours.Goals as goal

pub push-requires-clause-fresh : goal.push-requires-clause-fresh
push-requires-clause-fresh c =
    let names = c.args.problem.now.colour_names in
    let before = c.loop-before.before in
    let inside : c.loop-before.before < length names = omega (arith, c.loop-before-test.true, c.colour_names-before-end.ensures.count) in
    let place : before + 1 - 1 ≡ before = omega arith in
    rw c.loop-before.invariant (name_fresh names before c.colour_name.result.now c.colour_names-before-end.ensures.problem.distinct_colour_names inside (c.colour_name.ensures ∙ ap (λ k. get_or names k []) place))
