use Rattle.std.proofs.Common.{◌≡◌, length, vec_len}
use Rattle.solve_tests.proofs.tests.host.OddNetworkNetwork.links.Given as goal

abbrev pub invariant-loop-inner : goal.invariant-loop-inner
invariant-loop-inner g l = vec_len l.all ≡ length l.yielded
