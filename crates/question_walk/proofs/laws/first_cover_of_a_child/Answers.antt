use Rattle.question_walk.proofs.Children.{first_child}
use Rattle.question_walk.proofs.laws.first_cover_of_a_child.Goals as goal

pub returns : goal.returns
returns c = λ problem prefix child cover earlier later h split barren over. first_child problem prefix child cover earlier later h split barren over
