use Rattle.std.proofs.Common.{◌∙◌, sym}
use Rattle.question_walk.proofs.Walking.{complete_step, descended, descended_step, inside_reached, onward_step, seen_none, seen_some}
use Rattle.question_walk.proofs.walk.Walk.descend.Goals as goal

pub returns-in_default-clause-step : goal.returns-in_default-clause-step
returns-in_default-clause-step c =
    seen_some _ c.args.self.now c.self.view_is
    (complete_step c.self.inside.links.problem c.self.inside.links.chosen c.self.inside.cover (inside_reached _ c.args.self.now c.self.inside.links c.self.view_is c.requires c.self.invariant) (sym c.branch_item.ensures.item ∙ c.in_default.is))

pub invariant_of-self : goal.invariant_of-self
invariant_of-self c =
    descended c.self.inside.links c.choose_first-self-inside.new.self c.in-Some.item c.choose_first-self-inside.result c.self.inside.cover (inside_reached _ c.args.self.now c.self.inside.links c.self.view_is c.requires c.self.invariant)
    (sym c.in-Some.ensures.item) c.choose_first-self-inside.ensures.first c.choose_first-self-inside.ensures.child c.choose_first-self-inside.ensures.chosen

pub returns-clause-step : goal.returns-clause-step
returns-clause-step c =
    onward_step _ _ c.choose_first-self-inside.result c.onward.result c.onward.ensures (λ none. seen_none _ c.args.self.now c.self.view_is
    (descended_step c.self.inside.links c.in-Some.item c.choose_first-self-inside.result c.self.inside.cover (inside_reached _ c.args.self.now c.self.inside.links c.self.view_is c.requires c.self.invariant)
    (sym c.in-Some.ensures.item) c.choose_first-self-inside.ensures.first none))
