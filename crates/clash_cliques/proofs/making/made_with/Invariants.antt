use Rattle.std.proofs.Common.{◌≡◌, drop}
use Rattle.clash_cliques.specs.Cliques.{with_cliques, are_cliques}
use Rattle.clash_cliques.proofs.making.made_with.Given as goal

abbrev pub invariant-loop-clique : goal.invariant-loop-clique
invariant-loop-clique g l = record {
  cliques : are_cliques l.made (drop l.clique-index l.cliques) ≡ are_cliques l.problem l.cliques;
  made : with_cliques l.made (drop l.clique-index l.cliques) ≡ with_cliques l.problem l.cliques;
}
