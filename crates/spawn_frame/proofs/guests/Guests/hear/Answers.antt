use Rattle.std.proofs.Common.{◌<◌, Some, length, option_map, refl, subst, sym, ap, ◌∙◌, arith}
use Rattle.spawn_frame.specs.Guests.{change_place, open_places, work_at}
use Rattle.spawn_frame.specs.Works.{HearsFrom, frame_says, with_heard}
use Rattle.spawn_frame.proofs.Opened.{open_stays, place_got, place_written}
use Rattle.spawn_frame.proofs.guests.Guests.hear.Goals as goal

pub invariant_of-self : goal.invariant_of-self
invariant_of-self c =
    let gs = c.self.inside.items.items in
    let f = with_heard c.args.child c.args.child_result.now in
    let within : c.args.place < length gs = omega (arith, c.requires.within, ap length c.self.view_is) in
    c.self.invariant
    ∙ sym (ap open_places (place_written f gs c.args.place c.index_mut.result.now c.hear.new.self within c.index_mut.ensures.value c.hear.ensures.hears)
    ∙ open_stays f gs c.args.place (λ w at. refl))

pub returns-clause-guests : goal.returns-clause-guests
returns-clause-guests c =
    let gs = c.self.inside.items.items in
    let f = with_heard c.args.child c.args.child_result.now in
    let within : c.args.place < length gs = omega (arith, c.requires.within, ap length c.self.view_is) in
    place_written f gs c.args.place c.index_mut.result.now c.hear.new.self within c.index_mut.ensures.value c.hear.ensures.hears
    ∙ ap (λ l. change_place f l c.args.place) c.self.view_is

pub returns-clause-heard : goal.returns-clause-heard
returns-clause-heard c =
    let gs = c.self.inside.items.items in
    let f = with_heard c.args.child c.args.child_result.now in
    let within : c.args.place < length gs = omega (arith, c.requires.within, ap length c.self.view_is) in
    c.hear.ensures.heard ∙ ap (λ w. frame_says (Some w)) c.hear.ensures.hears
    ∙ ap (λ o. frame_says (option_map f o)) (sym (place_got gs c.args.place c.index_mut.result.now within c.index_mut.ensures.value))
    ∙ ap (λ l. frame_says (option_map f (work_at l c.args.place))) c.self.view_is

pub hear-requires : goal.hear-requires
hear-requires c =
    let gs = c.self.inside.items.items in
    let within : c.args.place < length gs = omega (arith, c.requires.within, ap length c.self.view_is) in
    subst HearsFrom (ap (λ l. work_at l c.args.place) (sym c.self.view_is) ∙ place_got gs c.args.place c.index_mut.result.now within c.index_mut.ensures.value) c.requires.hears
