use Rattle.std.proofs.Common.{◌≡◌, ◌∙◌, None, ap, sym, arith, subst, refl}
use Rattle.cover_problem.specs.Branching.{branch_item}
use Rattle.cover_problem.specs.Problem.{Problem}
use Rattle.cover_problem.specs.Search.{first}
use Rattle.cover_problem.proofs.Prefixes.{prefix_short}
use Rattle.cover_problem.proofs.Steps.{within_none}
use Rattle.choices.specs.Choices.{Choices}
use Rattle.brancher.specs.Keeping.{IsKeptOf, Keeping}
use Rattle.decider.specs.Deciding.{HaveNoCover}
use Rattle.decider.proofs.Trying.{IsTrying, known_none, no_cover_kept, tried_all, tried_child, tried_end, tried_first, tried_less, tried_other}
use Rattle.decider.proofs.deciding.+decide.Goals as goal

-- ---- before the children

pub returns-then-look-clause-kept : goal.returns-then-look-clause-kept
returns-then-look-clause-kept g t c =
    let A : Keeping → Type 0 = λ k. HaveNoCover (g.B.Branching.choices c.args.state.now).problem k.states in
    subst A (sym c.is_watch_due.ensures) c.requires

pub returns-in_default-clause-decided : goal.returns-in_default-clause-decided
returns-in_default-clause-decided g t c =
    let now = g.B.Branching.choices c.args.state.now in
    let e : branch_item (g.B.Branching.choices c.args.state.now).problem (g.B.Branching.choices c.args.state.now).chosen ≡ None = sym c.branch_item.ensures.item ∙ c.in_default.is in
    (within_none now.problem now.problem.primary now.chosen e).found

pub returns-in_default-clause-kept : goal.returns-in_default-clause-kept
returns-in_default-clause-kept g t c =
    let A : Keeping → Type 0 = λ k. HaveNoCover (g.B.Branching.choices c.args.state.now).problem k.states in
    subst A (sym c.is_watch_due.ensures) c.requires

pub returns-clause-decided : goal.returns-clause-decided
returns-clause-decided g t c =
    let now = g.B.Branching.choices c.args.state.now in
    let kept : c.made.new.self ≡ c.args.kept.now = c.made.ensures ∙ c.is_watch_due.ensures in
    let A : Keeping → Type 0 = λ k. HaveNoCover (g.B.Branching.choices c.args.state.now).problem k.states in
    (known_none now.problem c.made.new.self.states now.chosen c.in-Some-known.number (subst A (sym kept) c.requires) c.in-Some-known.ensures.known, refl)

pub returns-clause-kept : goal.returns-clause-kept
returns-clause-kept g t c =
    let A : Keeping → Type 0 = λ k. HaveNoCover (g.B.Branching.choices c.args.state.now).problem k.states in
    subst A (sym (c.known.ensures.unchanged ∙ c.made.ensures ∙ c.is_watch_due.ensures)) c.requires

-- ---- the children

pub loop-state-init : goal.loop-state-init
loop-state-init g t c =
    let now = g.B.Branching.choices c.args.state.now in
    let A : Keeping → Type 0 = λ k. HaveNoCover (g.B.Branching.choices c.args.state.now).problem k.states in
    record {
      kept = subst A (sym (c.known.ensures.unchanged ∙ c.made.ensures ∙ c.is_watch_due.ensures)) c.requires;
      trying = tried_first now (g.B.Branching.choices c.choose_first-next.new.self) c.in-Some.item c.choose_first-next.result (sym c.in-Some.ensures.item) c.choose_first-next.ensures.first c.choose_first-next.ensures.child c.choose_first-next.ensures.chosen;
      short = omega (arith, prefix_short now.problem now.chosen c.problem.ensures.lawful c.chosen-2.ensures.prefix);
    }

pub decide-requires : goal.decide-requires
decide-requires g t c κs within =
    let before = g.B.Branching.choices c.args.state.now in
    let child = tried_child before (g.B.Branching.choices c.loop-state.state) c.in-Some.item c.loop-state.next (sym c.is_some.ensures ∙ c.loop-state-test.true) c.loop-state.invariant.trying in
    let P : Problem → Type 0 = λ p. HaveNoCover p c.loop-state.kept.states in
    (omega (arith, c.decreases, ap (λ (p : Problem). p.primary) child.0, child.1, c.loop-state.invariant.short), (within.0, (within.1.0, (within.1.1, subst P (sym child.0) c.loop-state.invariant.kept))))

pub returns-in_default-decide : goal.returns-in_default-decide
returns-in_default-decide g t c =
    let child = tried_child (g.B.Branching.choices c.args.state.now) (g.B.Branching.choices c.loop-state.state) c.in-Some.item c.loop-state.next (sym c.is_some.ensures ∙ c.loop-state-test.true) c.loop-state.invariant.trying in
    let P : Problem → Type 0 = λ p. HaveNoCover p c.decide.new.kept.states in
    record {
      problem = c.decide.ensures.problem ∙ child.0;
      decided = tried_end g.W.Watch.may_stop (g.B.Branching.choices c.args.state.now) (g.B.Branching.choices c.loop-state.state) (g.B.Branching.choices c.decide.new.state) c.in-Some.item c.loop-state.next c.decide.result c.decide.result refl c.in_default-decide.not-Barren
          (sym c.is_some.ensures ∙ c.loop-state-test.true) c.loop-state.invariant.trying c.decide.ensures.decided;
      kept = subst P child.0 c.decide.ensures.kept;
    }

pub loop-state-smaller : goal.loop-state-smaller
loop-state-smaller g t c =
    let before = g.B.Branching.choices c.args.state.now in
    let T : Choices → Type 0 = λ v. IsTrying (g.B.Branching.choices c.args.state.now) c.in-Some.item v c.loop-state.next in
    tried_less before (g.B.Branching.choices c.decide.new.state) (g.B.Branching.choices c.choose_next-next.new.self) c.in-Some.item c.loop-state.next c.choose_next-next.result (sym c.is_some.ensures ∙ c.loop-state-test.true) (subst T (sym c.in-Barren.ensures.decided.1) c.loop-state.invariant.trying) c.choose_next-next.ensures

pub loop-state-preserved : goal.loop-state-preserved
loop-state-preserved g t c =
    let before = g.B.Branching.choices c.args.state.now in
    let T : Choices → Type 0 = λ v. IsTrying (g.B.Branching.choices c.args.state.now) c.in-Some.item v c.loop-state.next in
    let child = tried_child (g.B.Branching.choices c.args.state.now) (g.B.Branching.choices c.loop-state.state) c.in-Some.item c.loop-state.next (sym c.is_some.ensures ∙ c.loop-state-test.true) c.loop-state.invariant.trying in
    let P : Problem → Type 0 = λ p. HaveNoCover p c.decide.new.kept.states in
    record {
      kept = subst P child.0 c.decide.ensures.kept;
      trying = tried_other before (g.B.Branching.choices c.decide.new.state) (g.B.Branching.choices c.choose_next-next.new.self) c.in-Some.item c.loop-state.next c.choose_next-next.result (sym c.is_some.ensures ∙ c.loop-state-test.true) (subst T (sym c.in-Barren.ensures.decided.1) c.loop-state.invariant.trying)
          (ap (λ (v : Choices). first v.problem v.chosen) c.in-Barren.ensures.decided.1 ∙ c.in-Barren.ensures.decided.0) c.choose_next-next.ensures;
      short = c.loop-state.invariant.short;
    }

pub returns-then-is_kept-clause-kept : goal.returns-then-is_kept-clause-kept
returns-then-is_kept-clause-kept g t c =
    let before = g.B.Branching.choices c.args.state.now in
    let now = g.B.Branching.choices c.loop-state.state in
    let all = tried_all before now c.in-Some.item c.loop-state.next (sym c.is_some.ensures ∙ c.loop-state-test.false) c.loop-state.invariant.trying in
    let K : Choices → Type 0 = λ v. IsKeptOf v.problem v.chosen c.keeps.result c.loop-state.kept.states c.keep.new.self.states in
    no_cover_kept before.problem c.loop-state.kept.states c.keep.new.self.states before.chosen c.keeps.result c.problem.ensures.lawful c.loop-state.invariant.kept (subst K all.0 c.keep.ensures.states) all.1
