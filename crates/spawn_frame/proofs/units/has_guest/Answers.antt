use Rattle.std.proofs.Common.{◌∙◌}
use Rattle.spawn_frame.proofs.Several.{found_there}
use Rattle.spawn_frame.proofs.units.has_guest.Goals as goal

pub returns : goal.returns
returns c = c.is_some.ensures ∙ found_there c.args.guests.now c.args.name c.args.attempt c.place_of.result c.place_of.ensures
