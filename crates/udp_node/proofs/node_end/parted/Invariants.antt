use Rattle.std.proofs.Common.{◌≡◌, ◌+◌, sum, sum_by, vec_len}
use Rattle.std.specs.Vec.{vec_capacity}
use Rattle.std.specs.Vec.Iter.{into_iter_items, into_iter_len}
use Rattle.udp_node.proofs.node_end.parted.Given as goal

abbrev pub invariant-loop-receipts : goal.invariant-loop-receipts
invariant-loop-receipts g l =
    (vec_len l.seats + into_iter_len l.receipts-iterator ≡ vec_len l.fn.all)
    × (vec_capacity l.seats ≡ vec_capacity l.fn.seats)
    × (sum l.seats.items ≡ vec_len l.tokens)
    × (vec_len l.tokens + sum_by (λ receipts. receipts.seat) (into_iter_items l.receipts-iterator) ≡ sum_by (λ receipts. receipts.seat) l.fn.all.items)
    × (vec_capacity l.tokens ≡ vec_capacity l.fn.tokens)
