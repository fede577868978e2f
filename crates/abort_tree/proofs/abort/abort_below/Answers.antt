use Rattle.spawn_frame.specs.Names.{same_unit}
use Rattle.std.proofs.Common.{[], ◌∷◌}
use Rattle.abort_tree.specs.Below.{is_among}
use Rattle.abort_tree.proofs.Reaching.{aborts_both, among_one}
use Rattle.abort_tree.proofs.abort.abort_below.Goals as goal

pub returns-clause-aborts : goal.returns-clause-aborts
returns-clause-aborts c =
    let unit = c.args.unit in
    aborts_both (is_among (unit ∷ [])) (same_unit unit) c.args.table.now.own c.abort.new.table.own (among_one unit) (c.abort.ensures.below (is_among (unit ∷ [])) c.in_ok-descendants.ensures)
