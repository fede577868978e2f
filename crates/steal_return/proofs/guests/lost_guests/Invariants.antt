use Rattle.std.proofs.Common.{◌≡◌, ◌++◌, drop}
use Rattle.spawn_frame.specs.Tables.{open_guests}
use Rattle.steal_return.proofs.guests.lost_guests.Given as goal
use Rattle.steal_return.specs.Members.{lost_units}

abbrev pub invariant-loop-place : goal.invariant-loop-place
invariant-loop-place l =
    l.lost.items ++ lost_units l.known (drop l.place (open_guests l.table.guests)) ≡ lost_units l.known (open_guests l.table.guests)
