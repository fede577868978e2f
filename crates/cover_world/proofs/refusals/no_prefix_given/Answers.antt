use Rattle.cover_world.proofs.Arriving.{give_refused}
use Rattle.cover_world.proofs.refusals.no_prefix_given.Goals as goal

pub returns : goal.returns
returns c = λ problem view from to serial attempt prefix fresh none unlawful reply out new step.
    give_refused problem view from serial attempt prefix reply out new fresh none unlawful (step.1.2)
