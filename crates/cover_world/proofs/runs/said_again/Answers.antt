use Rattle.std.proofs.Common.{refl}
use Rattle.cover_world.proofs.SaidAgain.{s18}
use Rattle.cover_world.proofs.runs.said_again.Goals as goal

pub returns : goal.returns
returns c = record { run = record { end = s18.end; run = s18.run; plays = refl; sends = refl; ends = (refl, refl) } }
