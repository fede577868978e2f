use Rattle.std.proofs.Common.{◌≡◌, take, vec_len}
use Rattle.std.specs.Prelude.{vec_capacity}
use Rattle.brancher.proofs.searcher.written.Given as goal

abbrev pub invariant-loop-number : goal.invariant-loop-number
invariant-loop-number l =
    (l.list.items ≡ take l.number-index l.numbers)
    × (vec_len l.list ≡ l.number-index)
    × (vec_capacity l.list ≡ vec_capacity l.fn.room)
