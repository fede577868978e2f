use Rattle.std.proofs.Common.{◌≡◌, vec_len}
use Rattle.workbench.proofs.memory_run.links.Given as goal

abbrev pub invariant-loop-site : goal.invariant-loop-site
invariant-loop-site l = vec_len l.links ≡ l.site
