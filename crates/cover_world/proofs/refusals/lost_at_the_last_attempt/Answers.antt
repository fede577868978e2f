use Rattle.cover_world.proofs.Lasting.{hello_refused, members_refused}
use Rattle.cover_world.proofs.refusals.lost_at_the_last_attempt.Goals as goal

pub returns-clause-members : goal.returns-clause-members
returns-clause-members c = λ problem view packet incarnations serial thief body last older reply out new step.
    members_refused problem view packet incarnations serial thief body last older reply out new step

pub returns-clause-hello : goal.returns-clause-hello
returns-clause-hello c = λ problem view packet known serial thief body last is earlier reply out new step.
    hello_refused problem view packet known serial thief body last is earlier reply out new step
