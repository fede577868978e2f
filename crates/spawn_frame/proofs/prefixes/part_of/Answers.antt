use Rattle.std.proofs.Common.{sym, ap, ◌∙◌}
use Rattle.spawn_frame.specs.Prefixes.{path_of}
use Rattle.spawn_frame.proofs.Grown.{guest_path, no_guest_path}
use Rattle.spawn_frame.proofs.prefixes.part_of.Goals as goal

pub returns-in-Some-place_of : goal.returns-in-Some-place_of
returns-in-Some-place_of c =
    ap (path_of c.args.own.now c.args.guests.now) c.in-Guest.is
    ∙ guest_path c.args.own.now c.args.guests.now c.requires.grown.whole c.in-Guest.name c.in-Guest.attempt c.in-Some-place_of.place c.index-guests-place.result (sym c.in-Some-place_of.is ∙ c.place_of.ensures)
    ∙ sym c.as_slice.ensures

pub returns-in-None-place_of : goal.returns-in-None-place_of
returns-in-None-place_of c =
    ap (path_of c.args.own.now c.args.guests.now) c.in-Guest.is
    ∙ no_guest_path c.args.own.now c.args.guests.now c.in-Guest.name c.in-Guest.attempt (sym c.in-None-place_of.is ∙ c.place_of.ensures)
