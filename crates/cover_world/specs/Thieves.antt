-- Thieves whose children are wanted no more.
use Rattle.std.specs.Prelude.{◌≡◌, ℕ, List, Some, slice_get}
use Rattle.node_core.specs.SiteView.{View, abort_packet}
use Rattle.packet_wire.specs.declared.packet.Packet.{Packet}
use Rattle.spawn_frame.specs.Units.{Entry, with_status}
use Rattle.spawn_frame.specs.declared.site.Site.{Site}
use Rattle.spawn_frame.specs.declared.status.Status.TheVariants.{Aborted, Out}

-- the packet is put out
abbrev pub PutsOut : List Packet → Packet → Type 0
PutsOut out packet = (k : ℕ) × (slice_get out k ≡ Some packet)

-- an own child that was out is aborted, at the attempt at which it was out
pub record CallsOff (old new : View) (serial : ℕ) (entry : Entry) (thief : Site) : Type 0 where
  pub is : slice_get old.own serial ≡ Some entry
  pub out_there : entry.status ≡ Out thief
  pub aborted : slice_get new.own serial ≡ Some (with_status Aborted entry)

-- the packet that tells the thief so
abbrev pub call_off : Site → ℕ → Entry → Site → Packet
call_off from serial entry thief = abort_packet from (record { serial = serial; attempt = entry.attempt; thief = thief })
