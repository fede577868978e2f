use Rattle.std.proofs.Common.{sym, ap, ◌∙◌}
use Rattle.node_core.proofs.Telling.{attempts_some}
use Rattle.node_core.proofs.node.hear.Goals as goal
use Rattle.packet_wire.specs.WellFormed.{is_body}

pub receive_give-requires-in-GiveMany : goal.receive_give-requires-in-GiveMany
receive_give-requires-in-GiveMany c =
    attempts_some c.in-GiveMany.prefix c.in-GiveMany.siblings (ap is_body (sym c.in-GiveMany.is) ∙ c.requires.formed)
