use Rattle.cover_problem.proofs.Example.{coloured_is_problem}
use Rattle.cover_problem.proofs.Outcomes.{coloured_barren, coloured_first, coloured_visits}
use Rattle.cover_problem.proofs.laws.coloured_search.Goals as goal

pub returns-clause-problem : goal.returns-clause-problem
returns-clause-problem c = coloured_is_problem

pub returns-clause-barren : goal.returns-clause-barren
returns-clause-barren c = coloured_barren

pub returns-clause-first : goal.returns-clause-first
returns-clause-first c = coloured_first

pub returns-clause-visits : goal.returns-clause-visits
returns-clause-visits c = coloured_visits
