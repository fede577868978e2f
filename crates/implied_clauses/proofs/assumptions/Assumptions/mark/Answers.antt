use Rattle.std.proofs.Common.{map, set, Some, ap, ◌∙◌}
use Rattle.implied_clauses.specs.Rests.{assumed_by}
use Rattle.implied_clauses.proofs.Assuming.{mark_set}
use Rattle.implied_clauses.proofs.assumptions.Assumptions.mark.Goals as goal

pub returns-then-option-len : goal.returns-then-option-len
returns-then-option-len c =
    let round = c.self.inside.round in
    let marks = c.self.inside.marks.items in
    ap (λ mark. map (assumed_by round) (set marks c.args.option mark)) c.mark_of-mark.ensures
    ∙ mark_set round marks c.args.option c.args.is_chosen
    ∙ ap (λ assumed. set assumed c.args.option (Some c.args.is_chosen)) c.self.view_is
