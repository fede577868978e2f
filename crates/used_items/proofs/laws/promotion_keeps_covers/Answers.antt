use Rattle.used_items.proofs.Reordering.{is_problem, same_covers}
use Rattle.used_items.proofs.laws.promotion_keeps_covers.Goals as goal

pub returns-clause-problem : goal.returns-clause-problem
returns-clause-problem c = λ problem room order lawful ok. is_problem problem room order lawful ok

pub returns-clause-covers : goal.returns-clause-covers
returns-clause-covers c = λ problem room order lawful ok. same_covers problem room order lawful ok
