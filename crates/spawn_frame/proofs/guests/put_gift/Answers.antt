use Rattle.std.proofs.Common.{◌≡◌, false, List, insert, map, subst, sym, ap, ◌∙◌}
use Rattle.std.specs.List.{position_or_len}
use Rattle.spawn_frame.specs.Gifts.{is_there, name_of}
use Rattle.spawn_frame.specs.Guests.{put_gift}
use Rattle.spawn_frame.specs.Names.{guest_before}
use Rattle.spawn_frame.specs.Tables.{IsAscending}
use Rattle.spawn_frame.specs.Works.{fresh_guest, guest_entry}
use Rattle.spawn_frame.specs.declared.guest.Guest.{Guest}
use Rattle.spawn_frame.proofs.Admitted.{put_is}
use Rattle.spawn_frame.proofs.Several.{gift_ascends, gift_new, gift_there}
use Rattle.spawn_frame.proofs.guests.put_gift.Goals as goal

pub returns-then-has_guest-clause-items : goal.returns-then-has_guest-clause-items
returns-then-has_guest-clause-items c =
    gift_there c.args.from c.args.gift c.args.items.now.items
    (sym (ap (λ (gs : List Guest). is_there c.args.from (map guest_entry gs) c.args.gift) c.deref.ensures.value) ∙ sym c.if-has_guest.ensures)

pub returns-clause-items : goal.returns-clause-items
returns-clause-items c =
    let gs = c.args.items.now.items in
    let new = fresh_guest (name_of c.args.from c.args.gift) c.args.gift.attempt c.args.gift.prefix in
    let absent = sym (ap (λ (l : List Guest). is_there c.args.from (map guest_entry l) c.args.gift) c.deref.ensures.value) ∙ sym c.if-has_guest.ensures in
    let place = c.place_behind-place.ensures.place ∙ ap (λ (l : List Guest). position_or_len (λ g. guest_before (name_of c.args.from c.args.gift) c.args.gift.attempt g.name g.work.attempt) l) c.deref-2.ensures.value in
    c.put_guest.ensures.items
    ∙ (λ i. insert gs (place i) (c.new_guest.ensures i))
    ∙ put_is new gs
    ∙ gift_new c.args.from c.args.gift gs absent

pub returns-clause-ascending : goal.returns-clause-ascending
returns-clause-ascending c =
    let gs = c.args.items.now.items in
    let new = fresh_guest (name_of c.args.from c.args.gift) c.args.gift.attempt c.args.gift.prefix in
    let absent = sym (ap (λ (l : List Guest). is_there c.args.from (map guest_entry l) c.args.gift) c.deref.ensures.value) ∙ sym c.if-has_guest.ensures in
    let place = c.place_behind-place.ensures.place ∙ ap (λ (l : List Guest). position_or_len (λ g. guest_before (name_of c.args.from c.args.gift) c.args.gift.attempt g.name g.work.attempt) l) c.deref-2.ensures.value in
    let put : c.put_guest.new.items.items ≡ put_gift c.args.from c.args.gift gs =
    c.put_guest.ensures.items ∙ (λ i. insert gs (place i) (c.new_guest.ensures i)) ∙ put_is new gs ∙ gift_new c.args.from c.args.gift gs absent in
    subst (λ (l : List Guest). IsAscending (map guest_entry l)) (sym put) (gift_ascends c.args.from c.args.gift gs c.requires.ascending)
