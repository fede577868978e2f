use Rattle.std.proofs.Common.{◌∙◌, sym, ap, arith, length}
use Rattle.brancher.proofs.Reaches.{no_next, goes_on, is_barren, changed, ended, taken_back}
use Rattle.brancher.proofs.visit.choose_onward.Goals as goal

pub returns-then-is_some : goal.returns-then-is_some
returns-then-is_some g c = λ root fuel left same barren.
    let next = changed root fuel left (g.B.Branching.choices c.loop-state.state) (g.B.Branching.choices c.choose_next.new.self) c.choose_next.result (omega (arith, same, c.loop-state-test.true, ap length c.chosen.ensures.chosen)) (c.loop-state.invariant.barren root fuel left same barren) c.choose_next.ensures in
    goes_on root fuel left (g.B.Branching.choices c.choose_next.new.self) c.choose_next.result (sym c.is_some.ensures ∙ c.if-is_some.true) next

pub loop-state-smaller : goal.loop-state-smaller
loop-state-smaller g c =
    (taken_back c.args.base (g.B.Branching.choices c.loop-state.state) (g.B.Branching.choices c.choose_next.new.self) c.choose_next.result (omega (arith, c.loop-state-test.true, ap length c.chosen.ensures.chosen)) c.loop-state.invariant.items c.choose_next.ensures (no_next c.choose_next.result (sym c.is_some.ensures ∙ c.if-is_some.false))).0

pub loop-state-preserved : goal.loop-state-preserved
loop-state-preserved g c = record {
  items = (taken_back c.args.base (g.B.Branching.choices c.loop-state.state) (g.B.Branching.choices c.choose_next.new.self) c.choose_next.result (omega (arith, c.loop-state-test.true, ap length c.chosen.ensures.chosen)) c.loop-state.invariant.items c.choose_next.ensures (no_next c.choose_next.result (sym c.is_some.ensures ∙ c.if-is_some.false))).1;
  barren = λ root fuel left same barren.
      let next = changed root fuel left (g.B.Branching.choices c.loop-state.state) (g.B.Branching.choices c.choose_next.new.self) c.choose_next.result (omega (arith, same, c.loop-state-test.true, ap length c.chosen.ensures.chosen)) (c.loop-state.invariant.barren root fuel left same barren) c.choose_next.ensures in
      is_barren root fuel left (g.B.Branching.choices c.choose_next.new.self) c.choose_next.result (sym c.is_some.ensures ∙ c.if-is_some.false) next;
}

pub returns : goal.returns
returns g c = λ root fuel left same barren.
    ended root fuel (g.B.Branching.choices c.loop-state.state) left (omega (arith, same, c.loop-state-test.false, ap length c.chosen.ensures.chosen)) (c.loop-state.invariant.barren root fuel left same barren)
