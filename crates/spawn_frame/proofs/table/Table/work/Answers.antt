use Rattle.std.proofs.Common.{◌≡◌, List, MatchOption, None, get_or, position, sym, ap, subst, ◌∙◌, map}
use Rattle.spawn_frame.specs.Tables.{IsAscending}
use Rattle.spawn_frame.specs.Units.{is_guest, unit_of}
use Rattle.spawn_frame.specs.Works.{IsWork, child_work, guest_entry, work_in}
use Rattle.spawn_frame.specs.declared.guest.Guest.{Guest}
use Rattle.spawn_frame.proofs.Found.{unit_none, unit_work}
use Rattle.spawn_frame.proofs.Places.{guest_get, guest_unread, place_is}
use Rattle.spawn_frame.proofs.table.Table.work.Goals as goal

pub returns-in_err-place-in-Guest : goal.returns-in_err-place-in-Guest
returns-in_err-place-in-Guest c =
    let t = c.self.inside in
    let whole = ap (λ (gs : List Guest). position (λ h. is_guest c.in-Guest.name c.in-Guest.attempt (guest_entry h)) gs) c.as_slice.ensures in
    let e = guest_unread t.guests c.in-Guest.name c.in-Guest.attempt (sym c.in_err-place-in-Guest.was ∙ c.place_of.ensures ∙ whole) in
    let n = unit_none t.site t.names_limit t.own t.guests c.args.unit (ap (work_in t.own t.guests) c.in-Guest.is ∙ e) in
    subst (λ r. MatchOption r (unit_of c.args.self.now c.args.unit ≡ None) (λ w. IsWork c.args.self.now c.args.unit w.now))
    (sym c.from_residual-in_err-place-in-Guest.ensures) (subst (λ v. unit_of v c.args.unit ≡ None) c.self.view_is n)

pub returns-in_ok-child-in-Own : goal.returns-in_ok-child-in-Own
returns-in_ok-child-in-Own c =
    let t = c.self.inside in
    let child = c.in_ok-child-in-Own.child.now in
    let e = ap (work_in t.own t.guests) c.in-Own.is ∙ ap child_work c.in_ok-child-in-Own.ensures in
    subst (λ v. IsWork v c.args.unit child.work) c.self.view_is (unit_work t.site t.names_limit t.own t.guests c.self.invariant c.args.unit child.work e)

pub returns-in_ok-place-in-Guest : goal.returns-in_ok-place-in-Guest
returns-in_ok-place-in-Guest c =
    let t = c.self.inside in
    let seen = c.as_slice-in-Guest.result.now in
    let place = c.in_ok-place-in-Guest.place in
    let guest : Guest = get_or seen place c.index-as_slice-place.result in
    let is = ap (get_or seen place) c.index-as_slice-place.is ∙ ap (λ l. get_or l place guest) c.as_slice-in-Guest.ensures in
    let whole = ap (λ (gs : List Guest). position (λ h. is_guest c.in-Guest.name c.in-Guest.attempt (guest_entry h)) gs) c.as_slice.ensures in
    let p = place_is t.guests c.in-Guest.name c.in-Guest.attempt place guest (sym c.in_ok-place-in-Guest.was ∙ c.place_of.ensures ∙ whole) is in
    let at = guest_get t.guests c.in-Guest.name c.in-Guest.attempt place guest p is in
    let e = ap (work_in t.own t.guests) c.in-Guest.is ∙ at in
    subst (λ v. IsWork v c.args.unit guest.work) c.self.view_is (unit_work t.site t.names_limit t.own t.guests c.self.invariant c.args.unit guest.work e)

pub place_of-requires : goal.place_of-requires
place_of-requires c =
    subst (λ (gs : List Guest). IsAscending (map guest_entry gs)) (sym c.as_slice.ensures) c.self.invariant.ascending
