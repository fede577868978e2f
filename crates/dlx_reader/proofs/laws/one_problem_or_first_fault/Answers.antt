use Rattle.dlx_reader.proofs.Determined.{one_problem, no_fault, some_problem}
use Rattle.dlx_reader.proofs.laws.one_problem_or_first_fault.Goals as goal

pub returns-clause-one : goal.returns-clause-one
returns-clause-one c = one_problem

pub returns-clause-no_fault : goal.returns-clause-no_fault
returns-clause-no_fault c = no_fault

pub returns-clause-some : goal.returns-clause-some
returns-clause-some c = some_problem
