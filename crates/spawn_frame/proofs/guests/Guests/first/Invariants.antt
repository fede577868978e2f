use Rattle.std.proofs.Common.{◌≡◌, drop}
use Rattle.spawn_frame.specs.Guests.{open_of}
use Rattle.spawn_frame.specs.Works.{first_wanted}
use Rattle.spawn_frame.proofs.guests.Guests.first.Given as goal

abbrev pub invariant-loop-place : goal.invariant-loop-place
invariant-loop-place l = first_wanted l.wanted (drop l.place (open_of l.self)) ≡ first_wanted l.wanted (open_of l.self)
