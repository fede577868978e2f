use Rattle.clash_cliques.proofs.Joining.{is_problem, same_covers}
use Rattle.clash_cliques.proofs.laws.one_clique_keeps_covers.Goals as goal

pub returns-clause-problem : goal.returns-clause-problem
returns-clause-problem c = λ problem clique lawful ok. is_problem problem clique lawful ok

pub returns-clause-covers : goal.returns-clause-covers
returns-clause-covers c = λ problem clique lawful ok. same_covers problem clique lawful ok
