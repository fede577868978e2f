use Rattle.std.proofs.Common.{◌≡◌, ◌≤◌, ◌+◌, sum, vec_len}
use Rattle.std.specs.Vec.Iter.{into_iter_items, into_iter_len}
use Rattle.run_book.proofs.seats.merged.Given as goal

abbrev pub invariant-loop-seat : goal.invariant-loop-seat
invariant-loop-seat g l =
    (l.rest.parts + into_iter_len l.seat-iterator ≡ l.fn.rest.parts + vec_len l.fn.seats)
    × (l.rest.parts ≤ g.N.Ledger.parts)
    × (l.rest.amount + sum (into_iter_items l.seat-iterator) ≡ l.fn.rest.amount + sum l.fn.seats.items)
