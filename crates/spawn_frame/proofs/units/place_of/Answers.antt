use Rattle.std.proofs.Common.{arith}
use Rattle.spawn_frame.proofs.Halving.{place_another, place_found, place_none}
use Rattle.spawn_frame.proofs.units.place_of.Goals as goal

pub returns-then-behind-eq0 : goal.returns-then-behind-eq0
returns-then-behind-eq0 c =
    place_none c.args.guests.now c.requires c.args.name c.args.attempt c.place_behind-behind.result c.place_behind-behind.ensures.place c.place_behind-behind.ensures.within
    c.if-behind-eq0.true

pub returns-then-is_at : goal.returns-then-is_at
returns-then-is_at c =
    place_found c.args.guests.now c.requires c.args.name c.args.attempt c.place_behind-behind.result c.place_behind-behind.ensures.place c.place_behind-behind.ensures.within
    c.index-guests-behind.result (omega (arith, c.if-behind-eq0.false)) c.index-guests-behind.is c.if-is_at.ensures

pub returns-else-is_at : goal.returns-else-is_at
returns-else-is_at c =
    place_another c.args.guests.now c.requires c.args.name c.args.attempt c.place_behind-behind.result c.place_behind-behind.ensures.place c.place_behind-behind.ensures.within
    c.index-guests-behind.result (omega (arith, c.if-behind-eq0.false)) c.index-guests-behind.is c.if-is_at.ensures
