use Rattle.clash_cliques.proofs.Joining.{chosen_once}
use Rattle.clash_cliques.proofs.laws.a_clique_is_chosen_once.Goals as goal

pub returns : goal.returns
returns c = λ problem options by_twos chosen o p cover of_o of_p has_o has_p. chosen_once problem options chosen o p by_twos cover of_o of_p has_o has_p
