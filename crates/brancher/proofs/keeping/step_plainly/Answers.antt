use Rattle.std.proofs.Common.{◌≡◌, ◌∙◌, ap, sym, arith, length, inl, inr, subst, true}
use Rattle.cover_problem.proofs.Prefixes.{prefix_short}
use Rattle.barren_states.specs.States.{States}
use Rattle.choices.specs.Choices.{Choices}
use Rattle.brancher.specs.Keeping.{AreBarren, IsEntered, Keeping}
use Rattle.brancher.specs.declared.visit.Visit.TheVariants.{Found, Spent, Stopped}
use Rattle.brancher.proofs.Stepping.{barren_here, ended_here, paused_here}
use Rattle.brancher.proofs.keeping.step_plainly.Goals as goal

pub turn-requires-clause-room : goal.turn-requires-clause-room
turn-requires-clause-room g c =
    let now = g.B.Branching.choices c.args.state.now in
    let back = c.visit_prefix.ensures.back c.in-Barren.rest c.in-Barren.is in
    omega (arith, prefix_short now.problem now.chosen c.problem.ensures.lawful c.chosen-depth.ensures.prefix, c.requires.room, ap (λ (v : Choices). length v.chosen) back, ap (λ (v : Keeping). length v.entered) c.made.ensures)

pub returns-in-Barren-clause-step : goal.returns-in-Barren-clause-step
returns-in-Barren-clause-step g c = λ root fuel same are reached.
    let now = g.B.Branching.choices c.args.state.now in
    let back = c.visit_prefix.ensures.back c.in-Barren.rest c.in-Barren.is in
    let visit = c.in-Barren.ensures.visit in
    let R : Keeping → Type 0 = λ k. IsEntered root fuel k.entered (g.B.Branching.choices c.args.state.now) c.args.left in
    let A : Keeping → Type 0 = λ k. AreBarren root.problem k.states in
    let here = barren_here root fuel c.made.new.self.entered now (g.B.Branching.choices c.visit_prefix.new.state) c.args.left c.in-Barren.rest back visit.0 visit.1 (subst R (sym c.made.ensures) reached) in
    c.turn.ensures.step root fuel c.args.left g.W.Watch.may_stop same here.0 (subst A (sym c.made.ensures) are) here.1

pub returns-in-Stopped-clause-step : goal.returns-in-Stopped-clause-step
returns-in-Stopped-clause-step g c = λ root fuel same are reached.
    let now = g.B.Branching.choices c.args.state.now in
    let R : Keeping → Type 0 = λ k. IsEntered root fuel k.entered (g.B.Branching.choices c.args.state.now) c.args.left in
    let S : States → Type 0 = λ s. AreBarren root.problem s in (
      subst S (sym (c.forget_from.ensures.states ∙ ap (λ (v : Keeping). v.states) c.made-in-Stopped.ensures)) are,
      (
        omega (arith, c.if-rest-pause.true, c.saturating_sub-pause.ensures, c.stretch.ensures, c.requires.left),
        paused_here root fuel c.made-in-Stopped.new.self.entered c.forget_from.new.self.entered now (g.B.Branching.choices c.visit_prefix.new.state) c.args.left c.in-Stopped.rest (length c.chosen-depth.result.now) (ap length c.chosen-depth.ensures.chosen)
            c.forget_from.ensures.before c.forget_from.ensures.forgotten (subst R (sym c.made-in-Stopped.ensures) reached) (c.visit_prefix.ensures.reached c.in-Stopped.rest c.in-Stopped.is).1,
      ),
    )

pub returns-in-Stopped-2-clause-step : goal.returns-in-Stopped-2-clause-step
returns-in-Stopped-2-clause-step g c = λ root fuel same are reached.
    let now = g.B.Branching.choices c.args.state.now in
    let R : Keeping → Type 0 = λ k. IsEntered root fuel k.entered (g.B.Branching.choices c.args.state.now) c.args.left in
    let A : Keeping → Type 0 = λ k. AreBarren root.problem k.states in
    let may : g.W.Watch.may_stop ≡ true = elim (c.visit_prefix.ensures.stopped c.in-Stopped.rest c.in-Stopped.is) [
      | inl may ↦ may
      | inr none ↦ absurd (omega (arith, none, c.if-rest-pause.false))
    ] in (
      subst A (sym c.made-in-Stopped-2.ensures) are,
      ended_here g.W.Watch.may_stop root fuel c.made-in-Stopped-2.new.self.entered now (g.B.Branching.choices c.visit_prefix.new.state) c.args.left (Stopped c.in-Stopped.rest) (λ rest is. absurd (cc)) (λ rest is. may)
          c.visit_prefix.ensures.problem c.in-Stopped.ensures.visit (subst R (sym c.made-in-Stopped-2.ensures) reached),
    )

pub returns-in-Found-clause-step : goal.returns-in-Found-clause-step
returns-in-Found-clause-step g c = λ root fuel same are reached.
    let now = g.B.Branching.choices c.args.state.now in (
      are,
      ended_here g.W.Watch.may_stop root fuel c.args.kept.now.entered now (g.B.Branching.choices c.visit_prefix.new.state) c.args.left Found (λ rest is. absurd (cc)) (λ rest is. absurd (cc))
          c.visit_prefix.ensures.problem c.in-Found.ensures.visit reached,
    )

pub returns-in-Spent-clause-step : goal.returns-in-Spent-clause-step
returns-in-Spent-clause-step g c = λ root fuel same are reached.
    let now = g.B.Branching.choices c.args.state.now in
    let R : Keeping → Type 0 = λ k. IsEntered root fuel k.entered (g.B.Branching.choices c.args.state.now) c.args.left in
    let A : Keeping → Type 0 = λ k. AreBarren root.problem k.states in (
      subst A (sym c.made-in-Spent.ensures) are,
      ended_here g.W.Watch.may_stop root fuel c.made-in-Spent.new.self.entered now (g.B.Branching.choices c.visit_prefix.new.state) c.args.left Spent (λ rest is. absurd (cc)) (λ rest is. absurd (cc))
          c.visit_prefix.ensures.problem c.in-Spent.ensures.visit (subst R (sym c.made-in-Spent.ensures) reached),
    )
