use Rattle.std.proofs.Common.{◌≡◌, length, vec_len}
use Rattle.node_tests.proofs.tests.ends.wild.Given as goal

abbrev pub invariant-loop-link : goal.invariant-loop-link
invariant-loop-link g l = vec_len l.all ≡ length l.yielded
