use Rattle.cover_world.proofs.Lasting.{no_other, not_last}
use Rattle.cover_world.proofs.refusals.root_redo_of_no_use.Goals as goal

pub returns-clause-not_out : goal.returns-clause-not_out
returns-clause-not_out c = λ problem view serial not_out reply out new step.
    not_out (record { entry = step.1.entry; thief = step.1.thief; is = step.1.is; out_there = step.1.out_there })

pub returns-clause-last : goal.returns-clause-last
returns-clause-last c = λ problem view serial thief last reply out new step.
    not_last view serial thief step.1.entry last step.1.is step.1.not_last

pub returns-clause-other : goal.returns-clause-other
returns-clause-other c = λ problem view serial root alone other reply out new step.
    no_other view serial root step.1.entry alone other step.1.is
