use Rattle.std.proofs.Common.{◌∙◌, ◌+◌, ℕ, List, sym, ap, arith, length, subst}
use Rattle.cover_problem.specs.Problem.{Problem}
use Rattle.cover_problem.specs.Search.{visits}
use Rattle.brancher.specs.Keeping.{AreBarren, IsNoteOf}
use Rattle.brancher.proofs.Entering.{changed_in, ended_in, entered_problem, goes_in, noted_in}
use Rattle.brancher.proofs.Reaches.{no_next, taken_back}
use Rattle.brancher.proofs.keeping.turn_onward.Goals as goal

pub returns-then-is_some-clause-turned : goal.returns-then-is_some-clause-turned
returns-then-is_some-clause-turned g c = λ root fuel same are barren.
    let before = c.loop-state.invariant.barren root fuel same are barren in
    let next = changed_in root fuel c.args.left c.args.kept.now.entered (g.B.Branching.choices c.loop-state.state) (g.B.Branching.choices c.choose_next.new.self) c.choose_next.result (omega (arith, same, c.loop-state-test.true, ap length c.chosen.ensures.chosen)) before.1 c.choose_next.ensures in
    (before.0, goes_in root fuel c.args.kept.now.entered c.args.left (g.B.Branching.choices c.choose_next.new.self) c.choose_next.result (sym c.is_some.ensures ∙ c.if-is_some.true) next)

pub keep_barren-requires : goal.keep_barren-requires
keep_barren-requires g c =
    let back = taken_back c.args.base (g.B.Branching.choices c.loop-state.state) (g.B.Branching.choices c.choose_next.new.self) c.choose_next.result (omega (arith, c.loop-state-test.true, ap length c.chosen.ensures.chosen)) c.loop-state.invariant.items c.choose_next.ensures (no_next c.choose_next.result (sym c.is_some.ensures ∙ c.if-is_some.false)) in
    omega (arith, back.0, c.loop-state.invariant.room)

pub loop-state-smaller : goal.loop-state-smaller
loop-state-smaller g c =
    (taken_back c.args.base (g.B.Branching.choices c.loop-state.state) (g.B.Branching.choices c.choose_next.new.self) c.choose_next.result (omega (arith, c.loop-state-test.true, ap length c.chosen.ensures.chosen)) c.loop-state.invariant.items c.choose_next.ensures (no_next c.choose_next.result (sym c.is_some.ensures ∙ c.if-is_some.false))).0

pub loop-state-preserved : goal.loop-state-preserved
loop-state-preserved g c =
    let back = taken_back c.args.base (g.B.Branching.choices c.loop-state.state) (g.B.Branching.choices c.choose_next.new.self) c.choose_next.result (omega (arith, c.loop-state-test.true, ap length c.chosen.ensures.chosen)) c.loop-state.invariant.items c.choose_next.ensures (no_next c.choose_next.result (sym c.is_some.ensures ∙ c.if-is_some.false)) in
    let long = ap length c.keep_barren.ensures.entered in
    record {
      items = back.1;
      room = omega (arith, back.0, c.loop-state.invariant.room, long);
      entered = c.keep_barren.ensures.entered ∙ c.loop-state.invariant.entered;
      barren = λ root fuel same are barren.
          let before = c.loop-state.invariant.barren root fuel same are barren in
          let next = changed_in root fuel c.args.left c.args.kept.now.entered (g.B.Branching.choices c.loop-state.state) (g.B.Branching.choices c.choose_next.new.self) c.choose_next.result (omega (arith, same, c.loop-state-test.true, ap length c.chosen.ensures.chosen)) before.1 c.choose_next.ensures in
          let noted = noted_in root fuel c.args.kept.now.entered c.args.left (g.B.Branching.choices c.choose_next.new.self) c.choose_next.result (sym c.is_some.ensures ∙ c.if-is_some.false) next in
          let problem = entered_problem root fuel c.args.kept.now.entered (g.B.Branching.choices c.choose_next.new.self) noted.barren.earlier noted.barren.reached in
          let O : Problem → Type 0 = λ p. AreBarren p c.loop-state.kept.states in
          let N : Problem → Type 0 = λ p. AreBarren p c.keep_barren.new.kept.states in
          let E : List ℕ → Type 0 = λ ns. IsNoteOf ns (length (g.B.Branching.choices c.choose_next.new.self).chosen) (visits (g.B.Branching.choices c.choose_next.new.self).problem (g.B.Branching.choices c.choose_next.new.self).chosen + c.args.left) in
          (subst N problem (c.keep_barren.ensures.barren (subst O (sym problem) before.0) noted.barren.none (subst E (sym c.loop-state.invariant.entered) noted.noted)), noted.barren);
    }

pub returns-clause-turned : goal.returns-clause-turned
returns-clause-turned g c = λ root fuel same are barren.
    let before = c.loop-state.invariant.barren root fuel same are barren in
    (before.0, ended_in root fuel c.args.kept.now.entered (g.B.Branching.choices c.loop-state.state) c.args.left (omega (arith, same, c.loop-state-test.false, ap length c.chosen.ensures.chosen)) before.1)
