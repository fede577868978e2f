use Rattle.std.proofs.Common.{◌≡◌, ◌++◌, suc, drop, map, take}
use Rattle.spawn_frame.proofs.guests.move_on.Given as goal

abbrev pub invariant-loop-place : goal.invariant-loop-place
invariant-loop-place l = l.places ≡ map suc (take l.place-index l.fn.places) ++ drop l.place-index l.fn.places
