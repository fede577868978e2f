use Rattle.std.proofs.Common.{◌≡◌, vec_len}
use Rattle.cover_engines.proofs.sockets.sockets.Given as goal

abbrev pub invariant-loop : goal.invariant-loop
invariant-loop g l = vec_len l.sockets ≡ l.counter
