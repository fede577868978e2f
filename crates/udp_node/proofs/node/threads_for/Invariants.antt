use Rattle.std.proofs.Common.{◌≡◌, ◌+◌, vec_len}
use Rattle.udp_node.proofs.node.threads_for.Given as goal

abbrev pub invariant-loop-worker : goal.invariant-loop-worker
invariant-loop-worker g l = vec_len l.threads ≡ l.worker + 1
