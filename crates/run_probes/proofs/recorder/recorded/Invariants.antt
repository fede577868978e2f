use Rattle.std.proofs.Common.{◌≡◌, length, vec_len}
use Rattle.run_probes.proofs.recorder.recorded.Given as goal

abbrev pub invariant-loop-link : goal.invariant-loop-link
invariant-loop-link g l = vec_len l.all ≡ length l.yielded
