use Rattle.std.proofs.Common.{◌≡◌, ◌∙◌, ap, sym, arith, length, subst, Bool, None, refl}
use Rattle.cover_problem.specs.Branching.{branch_item}
use Rattle.cover_problem.specs.Problem.{Problem}
use Rattle.cover_problem.proofs.Prefixes.{prefix_short}
use Rattle.cover_problem.proofs.Steps.{some_visits, within_none}
use Rattle.barren_states.specs.States.{States}
use Rattle.choices.specs.Choices.{Choices}
use Rattle.brancher.specs.Keeping.{AreBarren, IsEntered, IsPast, Keeping}
use Rattle.brancher.specs.declared.visit.Visit.TheVariants.{Found, Stopped}
use Rattle.brancher.proofs.Entering.{entered_problem}
use Rattle.brancher.proofs.Stepping.{ended_here}
use Rattle.brancher.proofs.keeping.step.Goals as goal

-- ---- where it ends

pub returns-then-look-clause-step : goal.returns-then-look-clause-step
returns-then-look-clause-step g c = λ root fuel same are reached.
    let now = g.B.Branching.choices c.args.state.now in
    let A : Keeping → Type 0 = λ k. AreBarren root.problem k.states in (
      subst A (sym c.is_watch_due.ensures) are,
      ended_here g.W.Watch.may_stop root fuel c.args.kept.now.entered now now c.args.left (Stopped c.args.left) (λ rest is. absurd (cc)) (λ rest is. c.look.ensures c.if-look.true)
          refl (omega (arith, some_visits now.problem now.problem.primary now.chosen)) reached,
    )

pub returns-in_default-clause-step : goal.returns-in_default-clause-step
returns-in_default-clause-step g c = λ root fuel same are reached.
    let now = g.B.Branching.choices c.args.state.now in
    let A : Keeping → Type 0 = λ k. AreBarren root.problem k.states in
    let e : branch_item (g.B.Branching.choices c.args.state.now).problem (g.B.Branching.choices c.args.state.now).chosen ≡ None = sym c.branch_item.ensures.item ∙ c.in_default.is in
    let came = within_none now.problem now.problem.primary now.chosen e in (
      subst A (sym c.is_watch_due.ensures) are,
      ended_here g.W.Watch.may_stop root fuel c.args.kept.now.entered now now c.args.left Found (λ rest is. absurd (cc)) (λ rest is. absurd (cc))
          refl (omega (arith, came.visits, c.requires.left), came.found) reached,
    )

-- ---- past the chosen options

pub returns-then-is_beyond-clause-step : goal.returns-then-is_beyond-clause-step
returns-then-is_beyond-clause-step g c = λ root fuel same are reached.
    let A : Keeping → Type 0 = λ k. AreBarren root.problem k.states in
    let R : Keeping → Type 0 = λ k. IsEntered root fuel k.entered (g.B.Branching.choices c.args.state.now) c.args.left in
    c.step_plainly.ensures.step root fuel same (subst A (sym c.is_watch_due.ensures) are) (subst R (sym c.is_watch_due.ensures) reached)

pub returns-in_default-pass-clause-step : goal.returns-in_default-pass-clause-step
returns-in_default-pass-clause-step g c = λ root fuel same are reached.
    let now = g.B.Branching.choices c.args.state.now in
    let kept : c.made.new.self ≡ c.args.kept.now = c.made.ensures ∙ c.is_watch_due.ensures in
    let A : Keeping → Type 0 = λ k. AreBarren root.problem k.states in
    let R : Keeping → Type 0 = λ k. IsEntered root fuel k.entered (g.B.Branching.choices c.args.state.now) c.args.left in
    let P : Problem → Type 0 = λ p. AreBarren p c.made.new.self.states in
    let S : States → Type 0 = λ s. AreBarren root.problem s in
    let problem = entered_problem root fuel c.args.kept.now.entered now c.args.left reached in
    let spent = c.in_default-pass.ensures.passed root fuel (subst P (sym problem) (subst A (sym kept) are)) (subst R (sym kept) reached) in (
      subst S (sym c.pass.ensures.states) (subst A (sym kept) are),
      record {
        problem = ap (λ (v : Choices). v.problem) (c.in_default-pass.ensures.spent refl) ∙ problem;
        visit_is = spent;
        stopped = λ rest is. absurd (cc);
      },
    )

pub turn-requires-clause-room : goal.turn-requires-clause-room
turn-requires-clause-room g c =
    let now = g.B.Branching.choices c.args.state.now in
    let kept : c.made.new.self ≡ c.args.kept.now = c.made.ensures ∙ c.is_watch_due.ensures in
    let back = c.in-Some-pass.ensures.unchanged c.if-chosen.false in
    omega (arith, prefix_short now.problem now.chosen c.problem.ensures.lawful c.chosen-2.ensures.prefix, c.requires.room, c.pass.ensures.room, ap (λ (v : Choices). length v.chosen) back, ap (λ (v : Keeping). length v.entered) kept)

pub returns-then-chosen-clause-step : goal.returns-then-chosen-clause-step
returns-then-chosen-clause-step g c = λ root fuel same are reached.
    let now = g.B.Branching.choices c.args.state.now in
    let kept : c.made.new.self ≡ c.args.kept.now = c.made.ensures ∙ c.is_watch_due.ensures in
    let A : Keeping → Type 0 = λ k. AreBarren root.problem k.states in
    let R : Keeping → Type 0 = λ k. IsEntered root fuel k.entered (g.B.Branching.choices c.args.state.now) c.args.left in
    let P : Problem → Type 0 = λ p. AreBarren p c.made.new.self.states in
    let S : States → Type 0 = λ s. AreBarren root.problem s in
    let B : Bool → Type 0 = λ b. IsPast root fuel c.pass.new.kept.entered (g.B.Branching.choices c.pass.new.state) c.in-Some-pass.rest b in
    let problem = entered_problem root fuel c.args.kept.now.entered now c.args.left reached in
    let passed = c.in-Some-pass.ensures.passed root fuel (subst P (sym problem) (subst A (sym kept) are)) (subst R (sym kept) reached) in
    (subst S (sym c.pass.ensures.states) (subst A (sym kept) are), (passed.0, subst B c.if-chosen.true passed.1))

pub returns-else-chosen-clause-step : goal.returns-else-chosen-clause-step
returns-else-chosen-clause-step g c = λ root fuel same are reached.
    let now = g.B.Branching.choices c.args.state.now in
    let kept : c.made.new.self ≡ c.args.kept.now = c.made.ensures ∙ c.is_watch_due.ensures in
    let A : Keeping → Type 0 = λ k. AreBarren root.problem k.states in
    let R : Keeping → Type 0 = λ k. IsEntered root fuel k.entered (g.B.Branching.choices c.args.state.now) c.args.left in
    let P : Problem → Type 0 = λ p. AreBarren p c.made.new.self.states in
    let S : States → Type 0 = λ s. AreBarren root.problem s in
    let B : Bool → Type 0 = λ b. IsPast root fuel c.pass.new.kept.entered (g.B.Branching.choices c.pass.new.state) c.in-Some-pass.rest b in
    let problem = entered_problem root fuel c.args.kept.now.entered now c.args.left reached in
    let passed = c.in-Some-pass.ensures.passed root fuel (subst P (sym problem) (subst A (sym kept) are)) (subst R (sym kept) reached) in
    c.turn.ensures.step root fuel c.args.left g.W.Watch.may_stop same passed.0 (subst S (sym c.pass.ensures.states) (subst A (sym kept) are)) (subst B c.if-chosen.false passed.1)
