use Rattle.std.proofs.Common.{sym, subst, ◌∙◌}
use Rattle.cover_problem.specs.Prefix.{InFileOrder}
use Rattle.cover_problem.proofs.prefix.in_order.Goals as goal

pub returns-clause-order : goal.returns-clause-order
returns-clause-order c =
    subst (InFileOrder c.args.problem.now) (sym (c.from_vec.ensures ∙ c.in_ok-options.ensures)) (c.in_order_is_in_file_order.ensures c.args.problem.now c.args.chosen.now)
