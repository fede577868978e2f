use Rattle.implied_clauses.proofs.Implying.{item_implied, items_implied}
use Rattle.implied_clauses.proofs.laws.one_option_of_each_item_is_chosen.Goals as goal

pub returns-clause-each : goal.returns-clause-each
returns-clause-each c = λ problem item low. item_implied problem item low

pub returns-clause-all : goal.returns-clause-all
returns-clause-all c = λ problem. items_implied problem
