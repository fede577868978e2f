use Rattle.steal_return.proofs.Outrun.{aborts, ends}
use Rattle.std.proofs.Common.{◌≤◌, length, sym, ap, subst, ◌∙◌, arith}
use Rattle.abort_tree.specs.Below.{outs_from}
use Rattle.spawn_frame.specs.Splits.{with_result}
use Rattle.steal_return.proofs.Fewer.{appended_few, finished_few}
use Rattle.steal_return.proofs.Finishes.{appended, finishes_frame}
use Rattle.steal_return.proofs.Marking.{NoMoreOut, no_more_reached, only_own, parents, parents_gets, parents_length, result_no_more}
use Rattle.steal_return.proofs.ledger.Ledger.finish.Goals as goal

pub abort-requires-clause-marks : goal.abort-requires-clause-marks
abort-requires-clause-marks c =
    c.in_ok-reach.ensures.one_each
    ∙ parents_length _ _
    (parents_gets c.self.inside.table c.args.unit (with_result c.args.unit c.in_ok-came.came) ∙ ap (λ t. parents t.own) (sym c.set_result.ensures.after))

pub abort-requires-clause-room : goal.abort-requires-clause-room
abort-requires-clause-room c =
    let fewer : length (outs_from 0 c.in_ok-reach.reach c.set_result.new.self.own) ≤ length (outs_from 0 c.in_ok-reach.reach c.self.inside.table.own) =
    no_more_reached 0 c.in_ok-reach.reach _ _
    (subst (λ t. NoMoreOut c.self.inside.table.own t.own) (sym c.set_result.ensures.after) (result_no_more c.self.inside.table c.args.unit c.in_ok-came.came)) in
    omega (arith, fewer, c.in_ok-reserve.ensures.ok, c.outs.ensures)

pub returns-clause-ok : goal.returns-clause-ok
returns-clause-ok c = (
  _,
  appended c.args.list.now.items c.reserve.new.self.items c.abort.new.list.items _ c.abort.ensures.list c.reserve.ensures.items,
  finishes_frame _ c.args.self.now c.self.view_is c.args.unit c.in_ok-came.came c.set_result.new.self c.abort.new.table
      c.requires.split c.in_ok-came.ensures c.set_result.ensures.after (only_own c.set_result.new.self c.abort.new.table _ c.abort.ensures.table)
      (c.abort.ensures.below _
      (c.parents_decide.ensures _ c.self.inside.table.own _ _
      (parents_gets c.self.inside.table c.args.unit (with_result c.args.unit c.in_ok-came.came) ∙ ap (λ t. parents t.own) (sym c.set_result.ensures.after))
      c.in_ok-reach.ensures)),
)

pub invariant_of-self : goal.invariant_of-self
invariant_of-self c =
    aborts _ (ends _ c.self.invariant c.args.unit c.in_ok-came.came c.set_result.new.self c.set_result.ensures.after)
    c.in_ok-reach.reach c.abort.new.table c.abort.ensures.table

pub returns-clause-few : goal.returns-clause-few
returns-clause-few c = appended_few _ _ _ _ (finished_few c.args.self.now _ c.args.unit) (returns-clause-ok c)
