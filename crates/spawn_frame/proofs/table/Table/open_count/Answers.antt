use Rattle.std.proofs.Common.{length, sym, ap, ◌∙◌}
use Rattle.std.proofs.lemmas.List.{length-map}
use Rattle.spawn_frame.specs.Guests.{open_of}
use Rattle.spawn_frame.specs.Tables.{open_guests}
use Rattle.spawn_frame.specs.Works.{guest_entry}
use Rattle.spawn_frame.proofs.Opened.{open_view}
use Rattle.spawn_frame.proofs.table.Table.open_count.Goals as goal

pub returns-clause-count : goal.returns-clause-count
returns-clause-count c =
    let t = c.self.inside in
    c.open_count.ensures ∙ sym (length-map (open_of t.guests) guest_entry) ∙ ap length (open_view t.guests)
    ∙ ap (λ v. length (open_guests v.guests)) c.self.view_is
