use Rattle.cover_problem.proofs.Alike.{uncovered_alike}
use Rattle.cover_problem.proofs.laws.uncovered_items_tell_what_is_live.Goals as goal

pub returns : goal.returns
returns c = λ problem prefix other lawful all same. uncovered_alike problem prefix other lawful all same
