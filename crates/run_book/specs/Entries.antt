-- What happens at a site, and what is told of it.
use Rattle.std.specs.Prelude.{ℕ, List}
use Rattle.node_core.specs.declared.event.Event.{Event}
use Rattle.node_core.specs.declared.reply.Reply.{Reply}
use Rattle.packet_wire.specs.declared.packet.Packet.{Packet}

-- an event of a site with its reply and the packets that were put out
pub record Entry : Type 0 where
  pub event : Event
  pub reply : Reply
  pub packets : List Packet

-- an entry, with the number of the entries before it
pub record Placed : Type 0 where
  pub place : ℕ
  pub entry : Entry

-- the entry of these parts, at its place
abbrev pub placed : ℕ → Event → Reply → List Packet → Placed
placed place event reply packets = record { place = place; entry = record { event = event; reply = reply; packets = packets } }
