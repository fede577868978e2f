use Rattle.std.proofs.Common.{option_map, ap, arith}
use Rattle.spawn_frame.specs.Tables.{guest_key}
use Rattle.spawn_frame.proofs.Halving.{guest_there_at, none_there_at}
use Rattle.spawn_frame.proofs.units.key_at.Goals as goal

pub returns-then-place-guests : goal.returns-then-place-guests
returns-then-place-guests c =
    ap (option_map guest_key) (guest_there_at c.args.guests.now c.args.place c.index-guests-place.result (omega arith) c.index-guests-place.is)

pub returns-else-place-guests : goal.returns-else-place-guests
returns-else-place-guests c = ap (option_map guest_key) (none_there_at c.args.guests.now c.args.place (omega arith))
