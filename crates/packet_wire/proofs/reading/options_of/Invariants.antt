use Rattle.std.proofs.Common.{◌≡◌, ◌-◌}
use Rattle.packet_wire.specs.Reading.{fields_at}
use Rattle.packet_wire.specs.WellFormed.{is_option}
use Rattle.packet_wire.proofs.Loop.{with_front}
use Rattle.packet_wire.proofs.reading.options_of.Given as goal

abbrev pub invariant-loop : goal.invariant-loop
invariant-loop l = with_front l.options.items (fields_at 2 is_option (l.count - l.counter) l.rest) ≡ fields_at 2 is_option l.count l.bytes
