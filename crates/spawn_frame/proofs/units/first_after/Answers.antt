use Rattle.std.proofs.Common.{find, option_map, map, slice_get, sym, ap, ◌∙◌}
use Rattle.spawn_frame.specs.Tables.{guest_key, is_after}
use Rattle.spawn_frame.specs.Works.{guest_entry}
use Rattle.spawn_frame.proofs.Halving.{first_behind, first_of_all}
use Rattle.spawn_frame.proofs.units.first_after.Goals as goal

pub returns-in-Some : goal.returns-in-Some
returns-in-Some c =
    let gs = c.args.guests.now in
    c.key_at.ensures
    ∙ ap (option_map guest_key)
    (ap (slice_get (map guest_entry gs)) c.place_behind.ensures.place ∙ sym (first_behind c.in-Some.name c.in-Some.attempt gs)
    ∙ ap (λ after. find (is_after after) (map guest_entry gs)) (sym c.in-Some.is))

pub returns-in-None : goal.returns-in-None
returns-in-None c =
    let gs = c.args.guests.now in
    c.key_at-in-None.ensures
    ∙ ap (option_map guest_key) (sym (first_of_all gs) ∙ ap (λ after. find (is_after after) (map guest_entry gs)) (sym c.in-None.is))
