use Rattle.std.proofs.Common.{refl}
use Rattle.cover_world.proofs.Stolen.{anew15, refused}
use Rattle.cover_world.specs.Stolen.{anew_refuse, child_give}
use Rattle.cover_world.proofs.runs.thief_begins_anew.Goals as goal

pub returns : goal.returns
returns c = record { run = record { end = anew15.end; run = anew15.run; plays = refl; sends = refl; ends = (refl, refused child_give refl, refused anew_refuse refl) } }
