use Rattle.std.proofs.Common.{List, map, position, subst, sym, ap, ◌∙◌}
use Rattle.spawn_frame.specs.Guests.{StaysOpen, guest_of}
use Rattle.spawn_frame.specs.Tables.{IsAscending}
use Rattle.spawn_frame.specs.Units.{is_guest}
use Rattle.spawn_frame.specs.Works.{guest_entry, guests_after, with_work_status}
use Rattle.spawn_frame.specs.declared.guest.Guest.{Guest}
use Rattle.spawn_frame.proofs.Opened.{place_changed, place_work}
use Rattle.spawn_frame.proofs.Places.{guest_unwritten}
use Rattle.spawn_frame.proofs.units.set_unit.Goals as goal

pub place_of-requires : goal.place_of-requires
place_of-requires c = subst (λ (gs : List Guest). IsAscending (map guest_entry gs)) (sym c.as_slice.ensures) c.requires.ascending

pub set_status-requires-in-Some-clause-stays : goal.set_status-requires-in-Some-clause-stays
set_status-requires-in-Some-clause-stays c =
    let guests = c.args.guests.now in
    subst (StaysOpen c.args.status)
    (ap (λ u. guest_of u guests) c.in-Guest.is ∙ sym (place_work guests c.in-Guest.name c.in-Guest.attempt c.in-Some.place (sym c.in-Some.is ∙ c.place_of.ensures ∙ ap (λ (gs : List Guest). position (λ h. is_guest c.in-Guest.name c.in-Guest.attempt (guest_entry h)) gs) c.as_slice.ensures)))
    c.requires.stays

pub returns-in-Some-clause-guests : goal.returns-in-Some-clause-guests
returns-in-Some-clause-guests c =
    let guests = c.args.guests.now in
    c.set_status-in-Some.ensures
    ∙ place_changed (with_work_status c.args.status) guests c.in-Guest.name c.in-Guest.attempt c.in-Some.place (sym c.in-Some.is ∙ c.place_of.ensures ∙ ap (λ (gs : List Guest). position (λ h. is_guest c.in-Guest.name c.in-Guest.attempt (guest_entry h)) gs) c.as_slice.ensures)
    ∙ ap (λ u. guests_after u (with_work_status c.args.status) guests) (sym c.in-Guest.is)

pub returns-in_default-clause-guests : goal.returns-in_default-clause-guests
returns-in_default-clause-guests c =
    let guests = c.args.guests.now in
    guest_unwritten (with_work_status c.args.status) guests c.in-Guest.name c.in-Guest.attempt (sym c.in_default.is ∙ c.place_of.ensures ∙ ap (λ (gs : List Guest). position (λ h. is_guest c.in-Guest.name c.in-Guest.attempt (guest_entry h)) gs) c.as_slice.ensures)
    ∙ ap (λ u. guests_after u (with_work_status c.args.status) guests) (sym c.in-Guest.is)
