use Rattle.cover_problem.proofs.Firsts.{found_option, found_prefix}
use Rattle.cover_problem.proofs.laws.first_is_a_prefix.Goals as goal

pub returns-clause-prefix : goal.returns-clause-prefix
returns-clause-prefix c = λ problem prefix cover h e. found_prefix problem prefix cover h e

pub returns-clause-some : goal.returns-clause-some
returns-clause-some c = λ problem prefix cover p h e. found_option problem prefix cover p h e
