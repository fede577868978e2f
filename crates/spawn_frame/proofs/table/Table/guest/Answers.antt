use Rattle.std.proofs.Common.{◌<◌, get_or, length, slice_get, sym, ap, subst, ◌∙◌}
use Rattle.std.proofs.lemmas.List.{length-map}
use Rattle.spawn_frame.specs.Works.{guest_entry}
use Rattle.spawn_frame.proofs.Grown.{guest_seen}
use Rattle.spawn_frame.proofs.table.Table.guest.Goals as goal

pub returns : goal.returns
returns c =
    let t = c.self.inside in
    let guest = c.index-as_slice-place.result in
    let is = c.index-as_slice-place.is ∙ ap (λ l. get_or l c.args.place guest) c.as_slice.ensures in
    let within : c.args.place < length t.guests = subst (λ n. c.args.place < n) (length-map t.guests guest_entry) (subst (λ v. c.args.place < length v.guests) (sym c.self.view_is) c.requires) in
    ap (λ v. slice_get v.guests c.args.place) (sym c.self.view_is)
    ∙ guest_seen t.guests c.self.invariant.grown.whole c.args.place guest within is c.as_slice-2.result.now c.as_slice-2.ensures
