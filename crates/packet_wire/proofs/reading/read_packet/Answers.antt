use Rattle.std.proofs.Common.{ap, subst, ◌∙◌, arith}
use Rattle.packet_wire.specs.Reading.{Gives, reading}
use Rattle.packet_wire.proofs.Whole.{is_found, reading_again}
use Rattle.packet_wire.proofs.reading.read_packet.Goals as goal

pub returns-clause-found : goal.returns-clause-found
returns-clause-found c = is_found c.args.bytes.now c.whole_packet.result (λ i. omega (arith, c.type_inv.bytes i)) c.whole_packet.ensures

pub returns-clause-only : goal.returns-clause-only
returns-clause-only c = λ p ok e. subst (λ f. Gives (λ packet. packet) c.whole_packet.result f) (ap reading e ∙ reading_again p ok) c.whole_packet.ensures
