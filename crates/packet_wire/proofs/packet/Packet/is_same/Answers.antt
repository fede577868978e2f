use Rattle.std.proofs.Common.{sym, ◌∙◌}
use Rattle.packet_wire.proofs.Sames.{equal_packet, same_packet}
use Rattle.packet_wire.proofs.packet.Packet.is_same.Goals as goal

pub returns : goal.returns
returns c =
    let p = c.args.self.now in
    let q = c.args.other.now in
    (λ e. same_packet p q (sym c.eq.ensures ∙ e), λ e. c.eq.ensures ∙ equal_packet p q e)
