use Rattle.std.proofs.Common.{◌≡◌, ◌-◌}
use Rattle.packet_wire.specs.Reading.{fields_at}
use Rattle.packet_wire.specs.WellFormed.{is_counted}
use Rattle.packet_wire.proofs.Loop.{with_front}
use Rattle.packet_wire.proofs.reading.incarnations_of.Given as goal

abbrev pub invariant-loop : goal.invariant-loop
invariant-loop l = with_front l.incarnations.items (fields_at 4 is_counted (l.count - l.counter) l.rest) ≡ fields_at 4 is_counted l.count l.bytes
