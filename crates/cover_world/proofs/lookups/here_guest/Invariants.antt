use Rattle.std.proofs.Common.{◌≡◌, drop, find}
use Rattle.cover_world.specs.Views.{is_here_guest}
use Rattle.cover_world.proofs.lookups.here_guest.Given as goal

abbrev pub invariant-loop-place : goal.invariant-loop-place
invariant-loop-place l = find is_here_guest (drop l.place l.table.guests) ≡ find is_here_guest l.table.guests
