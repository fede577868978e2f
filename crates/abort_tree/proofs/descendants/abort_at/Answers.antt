use Rattle.std.proofs.Common.{◌∙◌, ap, sym, true}
use Rattle.spawn_frame.specs.Units.{table_own}
use Rattle.abort_tree.proofs.Aborting.{one_aborted, one_kept}
use Rattle.abort_tree.proofs.descendants.abort_at.Goals as goal

pub returns-then-is_open-clause-table : goal.returns-then-is_open-clause-table
returns-then-is_open-clause-table c = c.abort.ensures ∙ ap (table_own c.args.table.now) (one_aborted c.args.table.now.own c.args.serial true (sym c.is_open.ensures ∙ c.if-is_open.true))

pub returns-else-is_open-clause-table : goal.returns-else-is_open-clause-table
returns-else-is_open-clause-table c = ap (table_own c.args.table.now) (one_kept c.args.table.now.own c.args.serial true (sym c.is_open.ensures ∙ c.if-is_open.false))
