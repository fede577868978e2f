use Rattle.std.proofs.Common.{◌∙◌, ap, arith, length, refl}
use Rattle.cover_problem.proofs.Steps.{some_visits}
use Rattle.brancher.specs.Keeping.{in_root}
use Rattle.brancher.proofs.Entering.{entered_problem, entered_reached}
use Rattle.brancher.proofs.Reaches.{reached_items, reached_spent}
use Rattle.brancher.proofs.keeping.visit_keeping.Goals as goal

pub loop-left-init : goal.loop-left-init
loop-left-init g c = record { reached = in_root; barren = c.requires.barren; long = refl }

pub step-requires-clause-items : goal.step-requires-clause-items
step-requires-clause-items g c =
    let root = g.B.Branching.choices c.args.state.now in
    let now = g.B.Branching.choices c.loop-left.state in
    omega (arith, reached_items root c.args.fuel now c.loop-left.left (entered_reached root c.args.fuel c.loop-left.kept.entered now c.loop-left.left c.loop-left.invariant.reached), ap length c.chosen-base.ensures.chosen)

pub step-requires-clause-room : goal.step-requires-clause-room
step-requires-clause-room g c =
    let root = g.B.Branching.choices c.args.state.now in
    let now = g.B.Branching.choices c.loop-left.state in
    let problem = entered_problem root c.args.fuel c.loop-left.kept.entered now c.loop-left.left c.loop-left.invariant.reached in
    let room = c.requires.room in
    omega (arith, ap (λ p. p.primary) problem, room, c.loop-left.invariant.long)

pub loop-left-preserved : goal.loop-left-preserved
loop-left-preserved g c =
    let root = g.B.Branching.choices c.args.state.now in
    let stepped = c.in-On.ensures.step root c.args.fuel (ap length c.chosen-base.ensures.chosen) c.loop-left.invariant.barren c.loop-left.invariant.reached in
    record {
      reached = stepped.1.1;
      barren = stepped.0;
      long = c.step.ensures.room ∙ c.loop-left.invariant.long;
    }

pub returns-in-End-clause-kept : goal.returns-in-End-clause-kept
returns-in-End-clause-kept g c =
    let root = g.B.Branching.choices c.args.state.now in
    let stepped = c.in-End.ensures.step root c.args.fuel (ap length c.chosen-base.ensures.chosen) c.loop-left.invariant.barren c.loop-left.invariant.reached in
    let room = c.requires.room in
    record { barren = stepped.0; room = omega (arith, room, c.step.ensures.room, c.loop-left.invariant.long) }

pub returns-clause-problem : goal.returns-clause-problem
returns-clause-problem g c = entered_problem (g.B.Branching.choices c.args.state.now) c.args.fuel c.loop-left.kept.entered (g.B.Branching.choices c.loop-left.state) c.loop-left.left c.loop-left.invariant.reached

pub returns-clause-visit : goal.returns-clause-visit
returns-clause-visit g c =
    let root = g.B.Branching.choices c.args.state.now in
    let now = g.B.Branching.choices c.loop-left.state in
    reached_spent root c.args.fuel now c.loop-left.left (entered_reached root c.args.fuel c.loop-left.kept.entered now c.loop-left.left c.loop-left.invariant.reached) (omega (arith, some_visits now.problem now.problem.primary now.chosen, c.loop-left-test.false))
