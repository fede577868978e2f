use Rattle.std.proofs.Common.{ℕ, List, ◌<◌, length, get_or, ◌∙◌, ap, arith, refl}
use Rattle.dancing_links.specs.declared.place.Place.{Place}
use Rattle.dancing_links.specs.Linking.{with_up, with_down}
use Rattle.dancing_links.proofs.Building.{building_step_at}
use Rattle.dancing_links.proofs.build.append.Goals as goal

pub returns : goal.returns
unfolding with_up with_down
returns c =
    let t = c.places-places.ensures.table in
    let none : Place = record { right = 0; item = 0; colour = 0 } in
    let column : ℕ = (get_or c.places-places.result.now c.args.node none).item in
    let inside : c.args.node < length c.args.layout.now.column = omega (arith, c.requires.node.1, t.place) in
    let e = ap (λ (places : List Place). (get_or places c.args.node none).item) c.places-places.ensures.places ∙ t.item c.args.node inside in
    record {
      after = building_step_at c.args.layout.now c.args.node column (get_or c.args.lasts.now column 0) c.args.lasts.now c.args.links.now t c.requires.node.0 inside e refl c.requires.before;
    }
