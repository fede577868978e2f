use Rattle.packet_wire.proofs.Whole.{begins_no_other, one_packet}
use Rattle.packet_wire.proofs.laws.one_packet_of_each_spelling.Goals as goal

pub returns-clause-beginning : goal.returns-clause-beginning
returns-clause-beginning c = begins_no_other

pub returns-clause-one : goal.returns-clause-one
returns-clause-one c = one_packet
