use Rattle.std.proofs.Common.{◌≡◌, ◌+◌, vec_len}
use Rattle.std.specs.Vec.Iter.{into_iter_len}
use Rattle.node_tests.proofs.tests.crowded.crowded_registry.Given as goal

abbrev pub invariant-loop-inner : goal.invariant-loop-inner
invariant-loop-inner l = vec_len l.links + into_iter_len l.inner-iterator ≡ l.fn.nodes + 1
