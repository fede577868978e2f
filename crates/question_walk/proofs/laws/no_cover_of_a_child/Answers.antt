use Rattle.question_walk.proofs.Children.{none_child}
use Rattle.question_walk.proofs.laws.no_cover_of_a_child.Goals as goal

pub returns : goal.returns
returns c = λ problem prefix item h branch barren. none_child problem prefix item h branch barren
