use Rattle.std.proofs.Common.{◌≡◌, drop}
use Rattle.clash_cliques.specs.Cliques.{clash_by_twos}
use Rattle.clash_cliques.proofs.testing.clash_by_twos.Given as goal

abbrev pub invariant-loop-place : goal.invariant-loop-place
invariant-loop-place l = clash_by_twos l.problem (drop l.place l.options) ≡ clash_by_twos l.problem l.options
