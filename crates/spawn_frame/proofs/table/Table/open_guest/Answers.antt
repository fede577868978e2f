use Rattle.std.proofs.Common.{length, slice_get, subst, sym, ap, ◌∙◌, ◌<◌}
use Rattle.std.proofs.lemmas.List.{length-map}
use Rattle.spawn_frame.specs.Guests.{open_of}
use Rattle.spawn_frame.specs.Tables.{open_guests}
use Rattle.spawn_frame.specs.Works.{guest_entry}
use Rattle.spawn_frame.proofs.Opened.{open_seen, open_view}
use Rattle.spawn_frame.proofs.table.Table.open_guest.Goals as goal

pub open_guest-guest-requires : goal.open_guest-guest-requires
open_guest-guest-requires c =
    let t = c.self.inside in
    subst (λ n. c.args.place < n)
    (ap (λ v. length (open_guests v.guests)) (sym c.self.view_is) ∙ sym (ap length (open_view t.guests)) ∙ length-map (open_of t.guests) guest_entry) c.requires

pub returns : goal.returns
returns c =
    let t = c.self.inside in
    ap (λ v. slice_get (open_guests v.guests) c.args.place) (sym c.self.view_is)
    ∙ open_seen t.guests c.self.invariant.grown.whole c.args.place c.open_guest-guest.result.now c.open_guest-guest.ensures c.as_slice.result.now c.as_slice.ensures
