use Rattle.std.proofs.Common.{subst}
use Rattle.choices.specs.Choices.{Choices}
use Rattle.live_sets.specs.Rows.{IsTaken, IsUntried, untried_of}
use Rattle.live_sets.proofs.Choosing.{mark_leaves, mark_takes}
use Rattle.live_sets.proofs.Taking.{row_untried}
use Rattle.live_sets.proofs.sets.LiveSets.choose_first.Goals as goal
use Rattle.live_sets.proofs.sets.LiveSets.choose_first.Goals.{After-new, After-take}

whole_row : (c : After-new) → IsUntried c.args.self.now.problem c.args.self.now.chosen c.new.result.item 0 (untried_of c.new.result)
whole_row c =
    let s = c.self.inside in
    let v : Choices = c.args.self.now in
    let P : Choices → Type 0 = λ w. IsUntried w.problem w.chosen c.args.item 0 c.of_row-untried.result in
    let row = row_untried s.sets.now s.chosen.items c.args.item c.row.result.now c.of_row-untried.result c.row.ensures c.of_row-untried.ensures.bits c.of_row-untried.ensures.later in
    mark_leaves v.problem v.chosen c.args.item 0 c.new.result c.of_row-untried.result c.new.ensures.item c.new.ensures.untried (subst P c.self.view_is row)

pub take-requires : goal.take-requires
take-requires c = (0, whole_row (goal.at.take-requires c).After-new)

taken : (c : After-take) → IsUntried c.args.self.now.problem c.args.self.now.chosen c.new.result.item 0 (untried_of c.new.result) → IsTaken c.args.self.now c.args.item 0 c.take.result c.take.new.self
taken c left = mark_takes c.args.self.now c.args.item 0 c.take.result c.take.new.self c.new.result c.new.ensures.item (c.take.ensures 0 left)

pub returns-clause-first : goal.returns-clause-first
returns-clause-first c =
    let at = goal.at.returns-clause-first c in
    (taken at.After-take (whole_row at.After-new)).first

pub returns-clause-child : goal.returns-clause-child
returns-clause-child c =
    let at = goal.at.returns-clause-child c in
    (taken at.After-take (whole_row at.After-new)).child

pub returns-clause-chosen : goal.returns-clause-chosen
returns-clause-chosen c =
    let at = goal.at.returns-clause-chosen c in
    (taken at.After-take (whole_row at.After-new)).chosen
