use Rattle.cover_problem.proofs.Firsts.{few_options}
use Rattle.cover_problem.proofs.laws.prefixes_are_short.Goals as goal

pub returns : goal.returns
returns c = λ problem prefix p h. few_options problem prefix p h
