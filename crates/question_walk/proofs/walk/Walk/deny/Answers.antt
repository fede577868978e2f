use Rattle.std.proofs.Common.{◌∙◌, ap, sym}
use Rattle.question_walk.specs.Walks.{Walk}
use Rattle.question_walk.proofs.Walking.{denied_any, denied_last, denied_problem, denied_step, inside_barren, onward_step, seen_none}
use Rattle.question_walk.proofs.walk.Walk.deny.Goals as goal

pub invariant_of-self : goal.invariant_of-self
invariant_of-self c =
    denied_any c.self.inside.links c.choose_next-self-inside.new.self c.self.inside.asked c.choose_next-self-inside.result c.self.inside.cover (sym c.is_some.ensures ∙ c.if-is_some.true) c.self.invariant
    (inside_barren _ c.args.self.now c.self.view_is c.requires) c.choose_next-self-inside.ensures

pub returns-then-is_some-clause-problem : goal.returns-then-is_some-clause-problem
returns-then-is_some-clause-problem c =
    denied_problem c.self.inside.links c.choose_next-self-inside.new.self c.self.inside.asked c.choose_next-self-inside.result c.self.inside.cover (sym c.is_some.ensures ∙ c.if-is_some.true) c.self.invariant c.choose_next-self-inside.ensures
    ∙ ap (λ (w : Walk). w.problem) c.self.view_is

pub returns-then-is_some-clause-step : goal.returns-then-is_some-clause-step
returns-then-is_some-clause-step c =
    onward_step _ _ c.choose_next-self-inside.result c.onward.result c.onward.ensures (λ none. seen_none _ c.args.self.now c.self.view_is
    (denied_step c.self.inside.links c.choose_next-self-inside.new.self c.self.inside.asked c.choose_next-self-inside.result c.self.inside.cover (sym c.is_some.ensures ∙ c.if-is_some.true) c.self.invariant
    (inside_barren _ c.args.self.now c.self.view_is c.requires) c.choose_next-self-inside.ensures none))

pub returns-clause-step : goal.returns-clause-step
returns-clause-step c =
    seen_none _ c.args.self.now c.self.view_is
    (denied_last c.self.inside.links c.self.inside.asked c.self.inside.cover (sym c.is_some.ensures ∙ c.if-is_some.false) c.self.invariant (inside_barren _ c.args.self.now c.self.view_is c.requires))
