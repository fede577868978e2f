use Rattle.std.proofs.Common.{sym, ap, ◌∙◌}
use Rattle.spawn_frame.specs.Tables.{heard_at, parent_heard}
use Rattle.spawn_frame.proofs.table.Table.set_result.Goals as goal

pub returns-in-Guest-clause-heard : goal.returns-in-Guest-clause-heard
returns-in-Guest-clause-heard c =
    let new = c.set_status.new.self in
    ap (heard_at new) (sym (c.set_status.ensures.guests c.in-Guest.field-0 c.in-Guest.field-1)) ∙ ap (parent_heard new) (sym c.in-Guest.is)
