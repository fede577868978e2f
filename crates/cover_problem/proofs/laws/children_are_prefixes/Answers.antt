use Rattle.cover_problem.proofs.Firsts.{children_prefixes}
use Rattle.cover_problem.proofs.laws.children_are_prefixes.Goals as goal

pub returns : goal.returns
returns c = λ problem prefix h. children_prefixes problem prefix h
