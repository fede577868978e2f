use Rattle.std.proofs.Common.{drop}
use Rattle.steal_return.proofs.Drops.{DropsOn}
use Rattle.steal_return.proofs.guests.drop_guests.Given as goal

abbrev pub invariant-loop-unit : goal.invariant-loop-unit
invariant-loop-unit l = DropsOn l.fn.table l.table l.units (drop l.unit-index l.units)
