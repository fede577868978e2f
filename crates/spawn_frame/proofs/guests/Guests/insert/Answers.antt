use Rattle.std.proofs.Common.{◌<◌, ◌≤◌, get_or, length, subst, sym, ap, ◌∙◌, arith}
use Rattle.std.specs.List.Sorted.{IsNonDecreasing}
use Rattle.spawn_frame.specs.Guests.{open_places, places_with}
use Rattle.spawn_frame.proofs.Opened.{open_put, open_rise, open_within}
use Rattle.spawn_frame.proofs.guests.Guests.insert.Goals as goal

pub put_place-requires-clause-rising : goal.put_place-requires-clause-rising
put_place-requires-clause-rising c = subst IsNonDecreasing (sym (c.reserve.ensures.items ∙ c.self.invariant)) (open_rise c.self.inside.items.items)

pub put_place-requires-clause-fits : goal.put_place-requires-clause-fits
put_place-requires-clause-fits c = λ k l.
    let gs = c.self.inside.items.items in
    let is = c.reserve.ensures.items ∙ c.self.invariant in
    let within : k < length (open_places gs) = omega (arith, l, ap length is) in
    omega (arith, ap (λ ps. get_or ps k 0) is, open_within gs k within, c.in_ok-insert.ensures.len, c.len-count.ensures, c.len-count.type_inv)

pub invariant_of-self-2 : goal.invariant_of-self-2
invariant_of-self-2 c =
    let gs = c.self.inside.items.items in
    let within : c.args.place ≤ length gs = omega (arith, c.requires.within, ap length c.self.view_is) in
    c.put_place.ensures.places
    ∙ ap (places_with c.args.place) (c.reserve.ensures.items ∙ c.self.invariant)
    ∙ sym (ap open_places c.in_ok-insert.ensures.items ∙ open_put gs c.args.place c.args.guest c.requires.begins within)
