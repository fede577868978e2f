use Rattle.std.proofs.Common.{List, map, option_map, position, subst, sym, ap, ◌∙◌}
use Rattle.spawn_frame.specs.Tables.{IsAscending}
use Rattle.spawn_frame.specs.Units.{is_guest}
use Rattle.spawn_frame.specs.Works.{HearsFrom, frame_says, guest_entry, guests_after, with_heard, work_in}
use Rattle.spawn_frame.specs.declared.guest.Guest.{Guest}
use Rattle.spawn_frame.proofs.Opened.{place_changed, place_work}
use Rattle.spawn_frame.proofs.Places.{guest_unread, guest_unwritten}
use Rattle.spawn_frame.proofs.units.tell.Goals as goal

pub place_of-requires : goal.place_of-requires
place_of-requires c = subst (λ (gs : List Guest). IsAscending (map guest_entry gs)) (sym c.as_slice.ensures) c.requires.ascending

pub hear-requires-in-Some-clause-hears : goal.hear-requires-in-Some-clause-hears
hear-requires-in-Some-clause-hears c =
    let guests = c.args.guests.now in
    subst HearsFrom
    (ap (work_in c.args.own.now guests) c.in-Guest.is ∙ sym (place_work guests c.in-Guest.name c.in-Guest.attempt c.in-Some.place (sym c.in-Some.is ∙ c.place_of.ensures ∙ ap (λ (gs : List Guest). position (λ h. is_guest c.in-Guest.name c.in-Guest.attempt (guest_entry h)) gs) c.as_slice.ensures)))
    c.requires.hears

pub returns-in-Some-clause-guests : goal.returns-in-Some-clause-guests
returns-in-Some-clause-guests c =
    let guests = c.args.guests.now in
    let f = with_heard c.args.child c.args.child_result.now in
    c.hear-in-Some.ensures.guests
    ∙ place_changed f guests c.in-Guest.name c.in-Guest.attempt c.in-Some.place (sym c.in-Some.is ∙ c.place_of.ensures ∙ ap (λ (gs : List Guest). position (λ h. is_guest c.in-Guest.name c.in-Guest.attempt (guest_entry h)) gs) c.as_slice.ensures)
    ∙ ap (λ u. guests_after u f guests) (sym c.in-Guest.is)

pub returns-in-Some-clause-heard : goal.returns-in-Some-clause-heard
returns-in-Some-clause-heard c =
    let guests = c.args.guests.now in
    let f = with_heard c.args.child c.args.child_result.now in
    c.hear-in-Some.ensures.heard
    ∙ ap (λ o. frame_says (option_map f o)) (place_work guests c.in-Guest.name c.in-Guest.attempt c.in-Some.place (sym c.in-Some.is ∙ c.place_of.ensures ∙ ap (λ (gs : List Guest). position (λ h. is_guest c.in-Guest.name c.in-Guest.attempt (guest_entry h)) gs) c.as_slice.ensures))
    ∙ ap (λ u. frame_says (option_map f (work_in c.args.own.now guests u))) (sym c.in-Guest.is)

pub returns-in-None-clause-guests : goal.returns-in-None-clause-guests
returns-in-None-clause-guests c =
    let guests = c.args.guests.now in
    let f = with_heard c.args.child c.args.child_result.now in
    guest_unwritten f guests c.in-Guest.name c.in-Guest.attempt (sym c.in-None.is ∙ c.place_of.ensures ∙ ap (λ (gs : List Guest). position (λ h. is_guest c.in-Guest.name c.in-Guest.attempt (guest_entry h)) gs) c.as_slice.ensures) ∙ ap (λ u. guests_after u f guests) (sym c.in-Guest.is)

pub returns-in-None-clause-heard : goal.returns-in-None-clause-heard
returns-in-None-clause-heard c =
    let guests = c.args.guests.now in
    let f = with_heard c.args.child c.args.child_result.now in
    ap (λ o. frame_says (option_map f o)) (sym (guest_unread guests c.in-Guest.name c.in-Guest.attempt (sym c.in-None.is ∙ c.place_of.ensures ∙ ap (λ (gs : List Guest). position (λ h. is_guest c.in-Guest.name c.in-Guest.attempt (guest_entry h)) gs) c.as_slice.ensures)))
    ∙ ap (λ u. frame_says (option_map f (work_in c.args.own.now guests u))) (sym c.in-Guest.is)
