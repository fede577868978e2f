use Rattle.implied_clauses.proofs.Implying.{barren_implied, implied_barren}
use Rattle.implied_clauses.proofs.laws.barren_prefixes_are_implied_clauses.Goals as goal

pub returns-clause-implied : goal.returns-clause-implied
returns-clause-implied c = λ problem prefix barren. barren_implied problem prefix barren

pub returns-clause-barren : goal.returns-clause-barren
returns-clause-barren c = λ problem prefix implied. implied_barren problem prefix implied
