use Rattle.std.proofs.Common.{◌<◌, get_or, length, subst, sym, ap, ◌∙◌, arith}
use Rattle.std.specs.List.Sorted.{IsNonDecreasing}
use Rattle.spawn_frame.specs.Guests.{open_places, places_with}
use Rattle.spawn_frame.proofs.Opened.{open_put, open_rise, open_within}
use Rattle.spawn_frame.proofs.guests.put_guest.Goals as goal

pub put_place-requires-clause-rising : goal.put_place-requires-clause-rising
put_place-requires-clause-rising c = subst IsNonDecreasing (sym c.requires.open) (open_rise c.args.items.now.items)

pub put_place-requires-clause-fits : goal.put_place-requires-clause-fits
put_place-requires-clause-fits c = λ k l.
    let gs = c.args.items.now.items in
    let within : k < length (open_places gs) = omega (arith, l, ap length c.requires.open) in
    omega (arith, ap (λ ps. get_or ps k 0) c.requires.open, open_within gs k within, c.in-Ok.ensures.len, c.len-count.ensures, c.len-count.type_inv)

pub returns-clause-open : goal.returns-clause-open
returns-clause-open c =
    let gs = c.args.items.now.items in
    c.put_place.ensures.places
    ∙ ap (places_with c.args.place) c.requires.open
    ∙ sym (ap open_places c.in-Ok.ensures.items ∙ open_put gs c.args.place c.args.guest c.requires.begins c.requires.within)
