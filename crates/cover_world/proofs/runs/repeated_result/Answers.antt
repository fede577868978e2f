use Rattle.std.proofs.Common.{refl}
use Rattle.cover_world.proofs.Repeated.{s8}
use Rattle.cover_world.proofs.runs.repeated_result.Goals as goal

pub returns : goal.returns
returns c = record { run = record { end = s8.end; run = s8.run; plays = refl; sends = refl; ends = (refl, refl) } }
