use Rattle.std.proofs.Common.{◌≡◌, length, vec_len}
use Rattle.node_tests.proofs.tests.lost_first.links_that_lose.Given as goal

abbrev pub invariant-loop-inner : goal.invariant-loop-inner
invariant-loop-inner l = vec_len l.links ≡ length l.yielded
