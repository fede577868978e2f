use Rattle.std.proofs.Common.{◌≡◌, ◌∙◌, ◌-◌, None, sym, ap, arith, refl, length, not, subst, rules}
use Rattle.cover_problem.specs.Branching.{branch_item}
use Rattle.cover_problem.proofs.Steps.{within_none, some_visits}
use Rattle.choices.specs.Choices.{Choices}
use Rattle.brancher.specs.Reach.{IsReached, IsOnward, at_root}
use Rattle.brancher.proofs.Reaches.{first_child, goes_on, is_barren, reached_found, reached_items, reached_problem, reached_spent, reached_stopped}
use Rattle.brancher.proofs.visit.visit_prefix.Goals as goal
use Rattle.brancher.proofs.visit.visit_prefix.Goals.{else-is_none-via-then-is_none+else-not-choose_onward, else-is_none-via-else-is_none}

pub loop-left-init : goal.loop-left-init
loop-left-init g c = record { problem = refl; reached = at_root }

pub returns-in_default-clause-visit : goal.returns-in_default-clause-visit
returns-in_default-clause-visit g c =
    let now = (g.B.Branching.choices c.loop-left.state) in
    let e : branch_item (g.B.Branching.choices c.loop-left.state).problem (g.B.Branching.choices c.loop-left.state).chosen ≡ None = sym c.branch_item.ensures.item ∙ c.in_default.is in
    let came = within_none now.problem now.problem.primary now.chosen e in
    reached_found (g.B.Branching.choices c.args.state.now) c.args.fuel now c.loop-left.left now.chosen c.loop-left.invariant.reached (omega (arith, came.visits, c.loop-left-test.true)) came.found

pub choose_onward-requires : goal.choose_onward-requires
choose_onward-requires g c =
    let root = (g.B.Branching.choices c.args.state.now) in
    let left = c.loop-left.left - 1 in
    let now = (g.B.Branching.choices c.choose_first.new.self) in
    let next = first_child root c.args.fuel (g.B.Branching.choices c.loop-left.state) now c.in-Some.item c.loop-left.left c.choose_first.result (omega (arith, c.loop-left-test.true)) c.loop-left.invariant.reached (sym c.in-Some.ensures.item) c.choose_first.ensures.first c.choose_first.ensures.child c.choose_first.ensures.chosen in
    let barren = is_barren root c.args.fuel left now c.choose_first.result (c.is_none.ensures ∙ ap not c.if-is_none.true) next in
    omega (arith, reached_items root c.args.fuel now barren.earlier barren.reached, ap length c.chosen-base.ensures.chosen)

pub returns-then-not-choose_onward : goal.returns-then-not-choose_onward
returns-then-not-choose_onward g c =
    let root = (g.B.Branching.choices c.args.state.now) in
    let left = c.loop-left.left - 1 in
    let now = (g.B.Branching.choices c.choose_first.new.self) in
    let next = first_child root c.args.fuel (g.B.Branching.choices c.loop-left.state) now c.in-Some.item c.loop-left.left c.choose_first.result (omega (arith, c.loop-left-test.true)) c.loop-left.invariant.reached (sym c.in-Some.ensures.item) c.choose_first.ensures.first c.choose_first.ensures.child c.choose_first.ensures.chosen in
    let barren = is_barren root c.args.fuel left now c.choose_first.result (c.is_none.ensures ∙ ap not c.if-is_none.true) next in
    let ended = subst (IsOnward root c.args.fuel left (g.B.Branching.choices c.choose_onward.new.state)) c.if-not-choose_onward.true (c.choose_onward.ensures root c.args.fuel left (ap length c.chosen-base.ensures.chosen) barren) in
    record {
      problem = ap (λ (v : Choices). v.problem) ended.back;
      visit = (ended.visits, ended.none, ap (λ (v : Choices). v.chosen) ended.back);
      back = λ rest told. ended.back;
      stopped = search rules;
      reached = search rules;
    }

pub loop-left-preserved : goal.loop-left-preserved
loop-left-preserved g c =
    let root = (g.B.Branching.choices c.args.state.now) in
    let left = c.loop-left.left - 1 in
    let now = (g.B.Branching.choices c.choose_first.new.self) in
    let next = first_child root c.args.fuel (g.B.Branching.choices c.loop-left.state) now c.in-Some.item c.loop-left.left c.choose_first.result (omega (arith, c.loop-left-test.true)) c.loop-left.invariant.reached (sym c.in-Some.ensures.item) c.choose_first.ensures.first c.choose_first.ensures.child c.choose_first.ensures.chosen in
    let P : Choices → Type 0 = λ v. IsReached (g.B.Branching.choices c.args.state.now) c.args.fuel v (c.loop-left.left - 1) in
    let reached : IsReached (g.B.Branching.choices c.args.state.now) c.args.fuel (g.B.Branching.choices c.else-is_none.state) (c.loop-left.left - 1) = elim c.else-is_none.branch [
      | else-is_none-via-then-is_none+else-not-choose_onward w ↦
          let barren = is_barren root c.args.fuel left now c.choose_first.result (c.is_none.ensures ∙ ap not w.if-is_none.true) next in
          let onward = w.choose_onward.ensures root c.args.fuel left (ap length c.chosen-base.ensures.chosen) barren in
          subst P (sym (ap g.B.Branching.choices w.state-is)) (subst (IsOnward root c.args.fuel left (g.B.Branching.choices w.choose_onward.new.state)) w.if-not-choose_onward.false onward)
      | else-is_none-via-else-is_none w ↦
          subst P (sym (ap g.B.Branching.choices w.state-is)) (goes_on root c.args.fuel left now c.choose_first.result (c.is_none.ensures ∙ ap not w.if-is_none.false) next)
    ] in
    record { problem = reached_problem root c.args.fuel (g.B.Branching.choices c.else-is_none.state) left reached; reached = reached }

pub returns-else-left-gt0-clause-visit : goal.returns-else-left-gt0-clause-visit
returns-else-left-gt0-clause-visit g c =
    let now = (g.B.Branching.choices c.loop-left.state) in
    reached_spent (g.B.Branching.choices c.args.state.now) c.args.fuel now c.loop-left.left c.loop-left.invariant.reached (omega (arith, some_visits now.problem now.problem.primary now.chosen, c.if-left-gt0.false))

pub returns-then-left-gt0-clause-visit : goal.returns-then-left-gt0-clause-visit
returns-then-left-gt0-clause-visit g c =
    let now = g.B.Branching.choices c.loop-left.state in
    omega (arith, reached_stopped (g.B.Branching.choices c.args.state.now) c.args.fuel now c.loop-left.left 0 c.loop-left.invariant.reached (some_visits now.problem now.problem.primary now.chosen))

pub returns-then-look-clause-visit : goal.returns-then-look-clause-visit
returns-then-look-clause-visit g c =
    let now = g.B.Branching.choices c.loop-left.state in
    omega (arith, reached_stopped (g.B.Branching.choices c.args.state.now) c.args.fuel now c.loop-left.left 0 c.loop-left.invariant.reached (some_visits now.problem now.problem.primary now.chosen))
