use Rattle.packet_wire.proofs.Whole.{reading_again, reading_takes}
use Rattle.packet_wire.proofs.laws.each_spelling_is_read.Goals as goal

pub returns-clause-read : goal.returns-clause-read
returns-clause-read c = reading_again

pub returns-clause-only : goal.returns-clause-only
returns-clause-only c = λ p bytes fits e. reading_takes bytes p fits e
