use Rattle.case_reasons.proofs.Choices.{is_problem, kept}
use Rattle.case_reasons.proofs.laws.a_choice_keeps_its_covers.Goals as goal

pub returns-clause-problem : goal.returns-clause-problem
returns-clause-problem c = λ problem option lawful inside roomy. is_problem problem option lawful inside roomy

pub returns-clause-covers : goal.returns-clause-covers
returns-clause-covers c = λ problem option chosen lawful cover has. kept problem option lawful chosen cover has
