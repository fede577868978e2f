-- Where the packets of an event go.
use Rattle.std.specs.Prelude.{◌≡◌, ℕ, Bool, true, false, List, [], ◌∷◌, ◌++◌, Option, Some, None, min, ⊤}
use Rattle.packet_wire.specs.declared.packet.Packet.{Packet}

-- one list that packets are appended to, or two alike
pub record Outgoing : Type 0 where
  pub packets : List Packet
  pub copies : List Packet
  pub both : Bool  -- whether the second list gets them too
  pub room : ℕ  -- for how many more there is room in each

-- the room in the first list, or in both
abbrev pub room_in : ℕ → ℕ → Bool → ℕ
room_in first second false = first
room_in first second true = min first second

-- what the second list gets
abbrev pub copied : Bool → List Packet → List Packet
copied false out = []
copied true out = out

-- These packets are appended to each list.
pub record Sends (old : Outgoing) (out : List Packet) (new : Outgoing) : Type 0 where
  pub packets : new.packets ≡ old.packets ++ out
  pub copies : new.copies ≡ old.copies ++ copied old.both out
  pub both : new.both ≡ old.both

-- a packet for each of the lists
pub record ReadyPacket : Type 0 where
  pub packet : Packet
  pub copy : Option Packet

-- the packet, and an equal one where there is a second list
abbrev pub copy_for : Bool → Packet → Option Packet
copy_for false packet = None
copy_for true packet = Some packet

-- It is this packet, for each of the lists.
pub record IsReadyPacket (both : Bool) (packet : Packet) (load : ReadyPacket) : Type 0 where
  pub packet_is : load.packet ≡ packet
  pub copy_is : load.copy ≡ copy_for both packet

-- the packet that is ready, if there is one
abbrev pub loaded : Option ReadyPacket → List Packet
loaded None = []
loaded (Some load) = load.packet ∷ []

-- what is ready is so for each of the lists
abbrev pub IsReady : Bool → Option ReadyPacket → Type 0
IsReady both None = ⊤
IsReady both (Some load) = IsReadyPacket both load.packet load
