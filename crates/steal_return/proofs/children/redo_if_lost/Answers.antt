use Rattle.std.proofs.Common.{sym, ap, ◌∙◌}
use Rattle.spawn_frame.specs.Units.{table_own}
use Rattle.steal_return.proofs.Redoing.{redo_of_lost, redo_of_other}
use Rattle.steal_return.proofs.children.redo_if_lost.Goals as goal
use Rattle.steal_return.specs.Steals.{is_older}

pub returns-then-is_lost : goal.returns-then-is_lost
returns-then-is_lost c =
    c.redo.ensures ∙ ap (table_own c.args.table.now) (sym (redo_of_lost (is_older c.args.known.now) _ c.args.serial (sym c.if-is_lost.ensures)))

pub returns-else-is_lost : goal.returns-else-is_lost
returns-else-is_lost c =
    ap (table_own c.args.table.now) (redo_of_other (is_older c.args.known.now) _ c.args.serial (sym c.if-is_lost.ensures))
