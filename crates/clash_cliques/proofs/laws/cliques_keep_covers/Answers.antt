use Rattle.clash_cliques.proofs.Several.{are_problems, all_same_covers}
use Rattle.clash_cliques.proofs.laws.cliques_keep_covers.Goals as goal

pub returns-clause-problem : goal.returns-clause-problem
returns-clause-problem c = λ problem cliques lawful ok. are_problems problem cliques lawful ok

pub returns-clause-covers : goal.returns-clause-covers
returns-clause-covers c = λ problem cliques lawful ok. all_same_covers problem cliques lawful ok
