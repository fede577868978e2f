use Rattle.std.proofs.Common.{◌≡◌, take, vec_len}
use Rattle.std.specs.Prelude.{vec_capacity}
use Rattle.run_book.proofs.prepared.copied.Given as goal

abbrev pub invariant-loop-number : goal.invariant-loop-number
invariant-loop-number l =
    (l.copy.items ≡ take l.number-index l.numbers)
    × (vec_len l.copy ≡ l.number-index)
    × (vec_capacity l.copy ≡ vec_capacity l.fn.room)
