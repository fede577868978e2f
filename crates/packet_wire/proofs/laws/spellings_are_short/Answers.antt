use Rattle.packet_wire.proofs.Lengths.{spelling-short}
use Rattle.packet_wire.proofs.laws.spellings_are_short.Goals as goal

pub returns : goal.returns
returns c = spelling-short
