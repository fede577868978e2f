use Rattle.std.proofs.Common.{◌≡◌, length, vec_len}
use Rattle.node_tests.proofs.tests.fails_once.links_that_fail.Given as goal

abbrev pub invariant-loop-link : goal.invariant-loop-link
invariant-loop-link l = vec_len l.links ≡ length l.yielded
