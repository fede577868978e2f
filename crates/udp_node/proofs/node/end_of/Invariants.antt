use Rattle.std.proofs.Common.{◌≡◌, ◌+◌, vec_len}
use Rattle.std.specs.Vec.{vec_capacity}
use Rattle.std.specs.Vec.Iter.{into_iter_len}
use Rattle.udp_node.proofs.node.end_of.Given as goal

abbrev pub invariant-loop-acting_thread : goal.invariant-loop-acting_thread
invariant-loop-acting_thread g l =
    (vec_len l.end.seats + into_iter_len l.acting_thread-iterator ≡ vec_len l.fn.crew.threads)
    × (vec_capacity l.end.seats ≡ vec_capacity l.fn.crew.seats)
