use Rattle.std.proofs.Common.{◌≡◌, ◌≤◌, ◌*◌, ◌^◌, take, sum}
use Rattle.run_book.proofs.recorded_core.counted.Given as goal

abbrev pub invariant-loop-seat : goal.invariant-loop-seat
invariant-loop-seat g l = (l.all ≡ sum (take l.seat-index l.seats)) × (l.all ≤ l.seat-index * 2 ^ 64)
