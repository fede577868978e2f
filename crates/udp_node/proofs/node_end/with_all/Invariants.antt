use Rattle.std.proofs.Common.{◌≡◌, ◌+◌, vec_len}
use Rattle.std.specs.Vec.{vec_capacity}
use Rattle.std.specs.Vec.Iter.{into_iter_len}
use Rattle.udp_node.proofs.node_end.with_all.Given as goal

abbrev pub invariant-loop-receipt_token : goal.invariant-loop-receipt_token
invariant-loop-receipt_token g l =
    (vec_len l.tokens + into_iter_len l.receipt_token-iterator ≡ vec_len l.fn.tokens + vec_len l.fn.own)
    × (vec_capacity l.tokens ≡ vec_capacity l.fn.tokens)
