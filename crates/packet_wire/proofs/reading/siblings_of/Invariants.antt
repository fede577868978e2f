use Rattle.std.proofs.Common.{◌≡◌, ◌-◌, None}
use Rattle.packet_wire.specs.Reading.{siblings_at}
use Rattle.packet_wire.proofs.Rising.{behind}
use Rattle.packet_wire.proofs.reading.siblings_of.Given as goal

abbrev pub invariant-loop : goal.invariant-loop
invariant-loop l = behind l.siblings.items (siblings_at l.last (l.count - l.counter) l.rest) ≡ siblings_at None l.count l.bytes
