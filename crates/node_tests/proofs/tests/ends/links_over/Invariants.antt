use Rattle.std.proofs.Common.{◌≡◌, vec_len}
use Rattle.node_tests.proofs.tests.ends.links_over.Given as goal

abbrev pub invariant-loop-node : goal.invariant-loop-node
invariant-loop-node l = vec_len l.links ≡ l.node
