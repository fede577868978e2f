use Rattle.std.proofs.Common.{◌<◌, sym, subst, ◌∙◌, arith}
use Rattle.std.proofs.lemmas.Option.{same_Some}
use Rattle.cover_world.proofs.refusals.redo_of_no_use.Goals as goal
use Rattle.spawn_frame.specs.Units.{last_attempt}

pub returns-clause-not_out : goal.returns-clause-not_out
returns-clause-not_out c = λ problem view serial not_out reply out new step.
    not_out (record { entry = step.1.1.entry; thief = step.1.1.thief; is = step.1.1.is; out_there = step.1.1.out_there })

pub returns-clause-last : goal.returns-clause-last
returns-clause-last c = λ problem view serial entry is last reply out new step.
    omega (arith, last, subst (λ e. e.attempt < last_attempt) (same_Some step.1.1.entry entry (sym step.1.1.is ∙ is)) step.1.1.not_last)
