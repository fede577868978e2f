use Rattle.std.proofs.Common.{List, map, position, subst, sym, ap, ◌∙◌}
use Rattle.spawn_frame.specs.Guests.{StaysOpen, guest_of}
use Rattle.spawn_frame.specs.Tables.{IsAscending}
use Rattle.spawn_frame.specs.Units.{is_guest}
use Rattle.spawn_frame.specs.Works.{guest_entry, guests_after, split_work}
use Rattle.spawn_frame.specs.declared.guest.Guest.{Guest}
use Rattle.spawn_frame.specs.declared.status.Status.TheVariants.{Split}
use Rattle.spawn_frame.proofs.Opened.{place_changed, place_work}
use Rattle.spawn_frame.proofs.Places.{guest_unwritten}
use Rattle.spawn_frame.proofs.units.split_unit.Goals as goal

pub place_of-requires : goal.place_of-requires
place_of-requires c = subst (λ (gs : List Guest). IsAscending (map guest_entry gs)) (sym c.as_slice.ensures) c.requires.ascending

pub split-requires-in-Some-clause-stays : goal.split-requires-in-Some-clause-stays
split-requires-in-Some-clause-stays c =
    let guests = c.args.guests.now in
    subst (StaysOpen Split)
    (ap (λ u. guest_of u guests) c.in-Guest.is ∙ sym (place_work guests c.in-Guest.name c.in-Guest.attempt c.in-Some.place (sym c.in-Some.is ∙ c.place_of.ensures ∙ ap (λ (gs : List Guest). position (λ h. is_guest c.in-Guest.name c.in-Guest.attempt (guest_entry h)) gs) c.as_slice.ensures)))
    c.requires.stays

pub returns-in-Some-clause-guests : goal.returns-in-Some-clause-guests
returns-in-Some-clause-guests c =
    let guests = c.args.guests.now in
    c.split-in-Some.ensures
    ∙ place_changed (split_work c.args.first c.args.count) guests c.in-Guest.name c.in-Guest.attempt c.in-Some.place (sym c.in-Some.is ∙ c.place_of.ensures ∙ ap (λ (gs : List Guest). position (λ h. is_guest c.in-Guest.name c.in-Guest.attempt (guest_entry h)) gs) c.as_slice.ensures)
    ∙ ap (λ u. guests_after u (split_work c.args.first c.args.count) guests) (sym c.in-Guest.is)

pub returns-in_default-clause-guests : goal.returns-in_default-clause-guests
returns-in_default-clause-guests c =
    let guests = c.args.guests.now in
    guest_unwritten (split_work c.args.first c.args.count) guests c.in-Guest.name c.in-Guest.attempt (sym c.in_default.is ∙ c.place_of.ensures ∙ ap (λ (gs : List Guest). position (λ h. is_guest c.in-Guest.name c.in-Guest.attempt (guest_entry h)) gs) c.as_slice.ensures)
    ∙ ap (λ u. guests_after u (split_work c.args.first c.args.count) guests) (sym c.in-Guest.is)
