use Rattle.std.proofs.Common.{refl}
use Rattle.cover_world.proofs.LaterIncarnations.{s13}
use Rattle.cover_world.proofs.runs.later_incarnations.Goals as goal

pub returns : goal.returns
returns c = record { run = record { end = s13.end; run = s13.run; plays = refl; sends = refl; ends = refl } }
