use Rattle.brancher.proofs.Visits.{prefix_live}
use Rattle.brancher.proofs.branching.put_prefix.Goals as goal

pub choose-requires-clause-live : goal.choose-requires-clause-live
choose-requires-clause-live g c =
    let now = g.B.Branching.choices c.loop-option.state in
    prefix_live (g.B.Branching.choices c.args.state.now).problem now.problem c.args.prefix.now now.chosen c.loop-option.option-index c.requires c.loop-option.invariant.problem c.loop-option.invariant.chosen c.loop-option-test.true
