use Rattle.cover_world.proofs.refusals.registry_does_no_work.Goals as goal

pub returns-clause-take : goal.returns-clause-take
returns-clause-take c = λ problem view reply out new step. step

pub returns-clause-post : goal.returns-clause-post
returns-clause-post c = λ problem view job finding reply out new step. step

pub returns-clause-finish : goal.returns-clause-finish
returns-clause-finish c = λ problem view unit reply out new step. step

pub returns-clause-ask : goal.returns-clause-ask
returns-clause-ask c = λ problem view victim reply out new step. step

pub returns-clause-greet : goal.returns-clause-greet
returns-clause-greet c = λ problem view reply out new step. step
