use Rattle.std.proofs.Common.{◌≡◌, length, vec_len}
use Rattle.node_tests.proofs.tests.late.late_links.Given as goal

abbrev pub invariant-loop-inner : goal.invariant-loop-inner
invariant-loop-inner l = vec_len l.links ≡ length l.yielded
