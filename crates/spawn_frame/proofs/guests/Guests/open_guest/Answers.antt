use Rattle.std.proofs.Common.{◌<◌, Some, get_or, length, slice_get, sym, ap, ◌∙◌, arith}
use Rattle.std.proofs.lemmas.List.{get_or_default}
use Rattle.std.proofs.lemmas.Option.{slice_get-get_or}
use Rattle.spawn_frame.specs.Guests.{open_of, open_places}
use Rattle.spawn_frame.proofs.Opened.{open_at, open_length, open_within}
use Rattle.spawn_frame.proofs.guests.Guests.open_guest.Goals as goal

pub index-requires : goal.index-requires
index-requires c = omega (arith, c.requires, ap length c.self.invariant, open_length c.self.inside.items.items, ap (λ l. length (open_of l)) c.self.view_is)

pub index-requires-2 : goal.index-requires-2
index-requires-2 c =
    let gs = c.self.inside.items.items in
    let within : c.args.place < length (open_places gs) = omega (arith, c.requires, open_length gs, ap (λ l. length (open_of l)) c.self.view_is) in
    let place =
    c.index.ensures ∙ ap (λ l. get_or l c.args.place c.index.result.now) c.self.invariant ∙ get_or_default (open_places gs) c.args.place c.index.result.now 0 within in
    omega (arith, place, open_within gs c.args.place within)

pub returns : goal.returns
returns c =
    let gs = c.self.inside.items.items in
    let guest = c.index-2.result.now in
    let within : c.args.place < length (open_places gs) = omega (arith, c.requires, open_length gs, ap (λ l. length (open_of l)) c.self.view_is) in
    let fits : c.args.place < length (open_of gs) = omega (arith, within, open_length gs) in
    let place =
    c.index.ensures ∙ ap (λ l. get_or l c.args.place c.index.result.now) c.self.invariant ∙ get_or_default (open_places gs) c.args.place c.index.result.now 0 within in
    ap (λ l. slice_get (open_of l) c.args.place) (sym c.self.view_is)
    ∙ slice_get-get_or (open_of gs) c.args.place guest fits
    ∙ ap Some (open_at gs c.args.place guest within ∙ ap (λ n. get_or gs n guest) (sym place) ∙ sym c.index-2.ensures)
