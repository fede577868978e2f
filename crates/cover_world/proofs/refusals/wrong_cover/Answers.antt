use Rattle.cover_world.proofs.Arriving.{cover_refused}
use Rattle.cover_world.proofs.refusals.wrong_cover.Goals as goal

pub returns : goal.returns
returns c = λ problem view packet serial attempt returned body enters wrong reply out new step.
    cover_refused problem view packet serial attempt returned reply out new body enters wrong step
