use Rattle.std.proofs.Common.{refl}
use Rattle.live_sets.proofs.Planed.{planes_fewest, planes_none}
use Rattle.live_sets.proofs.plane_counts.least_from.Goals as goal

pub returns-in-Some : goal.returns-in-Some
returns-in-Some c p prefix are = planes_fewest p prefix c.args.first c.args.planes.now c.in-Some.item _ are c.in-Some.ensures.least

pub returns-in-None : goal.returns-in-None
returns-in-None c p prefix are = planes_none p prefix c.args.first c.args.planes.now are (c.in-None.ensures.none refl)
