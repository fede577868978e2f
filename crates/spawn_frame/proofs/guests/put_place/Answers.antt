use Rattle.std.proofs.Common.{List, ℕ, insert, subst, ap, ◌∙◌}
use Rattle.std.proofs.lemmas.List.{with_items_is}
use Rattle.spawn_frame.proofs.Opened.{Parts, moved_length, moved_list, put_moved}
use Rattle.spawn_frame.proofs.guests.put_place.Goals as goal

pub returns-clause-places : goal.returns-clause-places
returns-clause-places c =
    let was = c.args.places.now in
    let lent = c.deref_mut.result.now in
    let from = c.place_from-from.result in
    let p = c.place_from-from.ensures in
    let parts = subst (λ (l : List ℕ). Parts c.args.place l from) c.deref.ensures.value (record { within = p.within; before = p.before; from = p.from }) in
    let length_is = moved_length was.items lent c.move_on.new.places from parts.within c.deref_mut.ensures.value c.move_on.ensures ∙ c.deref_mut.ensures.len in
    c.in-Ok.ensures.items
    ∙ ap (λ l. insert l from c.args.place) (with_items_is was (moved_list lent c.move_on.new.places from) length_is)
    ∙ put_moved c.args.place was.items lent c.move_on.new.places from parts c.deref_mut.ensures.value c.move_on.ensures
