use Rattle.std.proofs.Common.{◌≡◌, ◌≤◌, ◌-◌, length}
use Rattle.spawn_frame.specs.Units.{table_own}
use Rattle.steal_return.proofs.Redoing.{redone_below}
use Rattle.steal_return.proofs.children.redo_lost.Given as goal
use Rattle.steal_return.specs.Steals.{is_older}

abbrev pub invariant-loop-from : goal.invariant-loop-from
invariant-loop-from l = record {
  within : l.from ≤ length l.fn.table.own;
  so_far : l.table ≡ table_own l.fn.table (redone_below (is_older l.known) l.from l.fn.table.own);
}

abbrev pub decreases-loop-from : goal.decreases-loop-from
decreases-loop-from l = length l.fn.table.own - l.from
