use Rattle.std.proofs.Common.{◌≡◌, vec_len}
use Rattle.cover_engines.proofs.sockets.links.Given as goal

abbrev pub invariant-loop-site : goal.invariant-loop-site
invariant-loop-site g l = vec_len l.links ≡ l.site
