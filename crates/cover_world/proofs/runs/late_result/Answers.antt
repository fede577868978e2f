use Rattle.std.proofs.Common.{refl}
use Rattle.cover_world.proofs.Stolen.{late16}
use Rattle.cover_world.proofs.runs.late_result.Goals as goal

pub returns : goal.returns
returns c = record { run = record { end = late16.end; run = late16.run; plays = refl; sends = refl; ends = (refl, refl, refl) } }
