use Rattle.std.proofs.Common.{◌<◌, length, refl, sym, ap, ◌∙◌, arith}
use Rattle.spawn_frame.specs.Guests.{change_place, open_places}
use Rattle.spawn_frame.specs.Works.{split_work}
use Rattle.spawn_frame.specs.declared.status.Status.TheVariants.{Split}
use Rattle.spawn_frame.proofs.Opened.{place_written, stays_open}
use Rattle.spawn_frame.proofs.guests.Guests.split.Goals as goal

pub invariant_of-self : goal.invariant_of-self
invariant_of-self c =
    let gs = c.self.inside.items.items in
    let f = split_work c.args.first c.args.count in
    let within : c.args.place < length gs = omega (arith, c.requires.within, ap length c.self.view_is) in
    c.self.invariant
    ∙ sym (ap open_places (place_written f gs c.args.place c.index_mut.result.now c.split.new.self within c.index_mut.ensures.value c.split.ensures)
    ∙ stays_open Split f (λ w. refl) refl gs c.args.self.now c.args.place c.self.view_is c.requires.stays)

pub returns : goal.returns
returns c =
    let gs = c.self.inside.items.items in
    let f = split_work c.args.first c.args.count in
    let within : c.args.place < length gs = omega (arith, c.requires.within, ap length c.self.view_is) in
    place_written f gs c.args.place c.index_mut.result.now c.split.new.self within c.index_mut.ensures.value c.split.ensures
    ∙ ap (λ l. change_place f l c.args.place) c.self.view_is
