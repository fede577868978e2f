use Rattle.std.proofs.Common.{refl}
use Rattle.cover_world.proofs.Together.{s15}
use Rattle.cover_world.proofs.runs.given_together.Goals as goal

pub returns : goal.returns
returns c = record { run = record { end = s15.end; run = s15.run; plays = refl; sends = refl; ends = (refl, refl, refl, refl) } }
