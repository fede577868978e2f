use Rattle.std.proofs.Common.{◌-◌}
use Rattle.steal_return.proofs.Shares.{Found}
use Rattle.steal_return.proofs.sharing.ready_below.Given as goal

abbrev pub invariant-loop-serial : goal.invariant-loop-serial
invariant-loop-serial l = Found l.fn.parent l.table.own l.fn.least l.serial l.ready.items

abbrev pub decreases-loop-serial : goal.decreases-loop-serial
decreases-loop-serial l = l.siblings.end - l.serial
