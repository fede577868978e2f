use Rattle.cover_problem.proofs.Plain.{plain_clash, plain_once}
use Rattle.cover_problem.proofs.laws.without_colours.Goals as goal

pub returns-clause-clash : goal.returns-clause-clash
returns-clause-clash c = λ problem o p lawful none within. plain_clash problem o p lawful none within

pub returns-clause-once : goal.returns-clause-once
returns-clause-once c = λ problem chosen item lawful none cover. plain_once problem chosen item lawful none cover
