use Rattle.std.proofs.Common.{◌<◌, cond, length, refl, subst, sym, ap, ◌∙◌, arith}
use Rattle.std.specs.List.Sorted.{IsNonDecreasing}
use Rattle.spawn_frame.specs.Guests.{change_place, open_places, places_without}
use Rattle.spawn_frame.specs.Works.{with_work_status}
use Rattle.spawn_frame.proofs.Opened.{kept_open, open_rise, place_written}
use Rattle.spawn_frame.proofs.guests.Guests.set_status.Goals as goal

pub keep_place-requires : goal.keep_place-requires
keep_place-requires c = subst IsNonDecreasing (sym c.self.invariant) (open_rise c.self.inside.items.items)

pub invariant_of-self : goal.invariant_of-self
invariant_of-self c =
    let gs = c.self.inside.items.items in
    let f = with_work_status c.args.status in
    let within : c.args.place < length gs = omega (arith, c.requires.within, ap length c.self.view_is) in
    c.keep_place.ensures
    ∙ (λ i. cond (c.is_open.ensures i) (c.self.invariant i) (places_without c.args.place (c.self.invariant i)))
    ∙ kept_open c.args.status f (λ w. refl) gs c.args.self.now c.args.place c.self.view_is c.requires.stays
    ∙ sym (ap open_places (place_written f gs c.args.place c.index_mut.result.now _ within c.index_mut.ensures.value refl))

pub returns : goal.returns
returns c =
    let gs = c.self.inside.items.items in
    let f = with_work_status c.args.status in
    let within : c.args.place < length gs = omega (arith, c.requires.within, ap length c.self.view_is) in
    place_written f gs c.args.place c.index_mut.result.now _ within c.index_mut.ensures.value refl
    ∙ ap (λ l. change_place f l c.args.place) c.self.view_is
