-- What a site does of itself: it asks for work, redoes a child, and says again what may be lost.
use Rattle.std.specs.Prelude.{◌≡◌, ◌≢◌, ℕ, suc, ◌≤◌, List, [], ◌∷◌, ◌++◌, Option, Some, None, slice_index}
use Rattle.node_core.specs.Results.{return_packets}
use Rattle.node_core.specs.SiteView.{View, with_ledger}
use Rattle.node_core.specs.declared.reply.Reply.{Reply}
use Rattle.node_core.specs.declared.reply.Reply.TheVariants.{Ignored, Moved}
use Rattle.packet_wire.specs.declared.packet.Body.TheVariants.{Give, Hello, Steal}
use Rattle.packet_wire.specs.declared.packet.Packet.{Packet}
use Rattle.spawn_frame.specs.Units.{Entry, GuestEntry}
use Rattle.spawn_frame.specs.declared.site.Site.{Site}
use Rattle.spawn_frame.specs.declared.status.Status.{Status}
use Rattle.spawn_frame.specs.declared.status.Status.TheVariants.{Finished, Out}
use Rattle.spawn_frame.specs.declared.unit.Unit.TheVariants.{Guest}
use Rattle.steal_return.specs.Ledger.{Ledger}
use Rattle.steal_return.specs.Steals.{RedoesChild}

-- the site of the registry
abbrev pub registry : Site
registry = record { node = 0; incarnation = 1 }

-- a node tells the registry that it is there
abbrev pub hello_packet : Site → Packet
hello_packet from = record { from = from; to = registry; body = Hello }

-- a node in the incarnation that is known of it
abbrev pub known_site : View → ℕ → Site
known_site view node = record { node = node; incarnation = slice_index view.known node }

-- A Steal goes to another node that there is (Cilk-NOW).
pub record AskStep (old : View) (victim : ℕ) (out : List Packet) (new : View) : Type 0 where
  pub another : victim ≢ old.site.node
  pub exists : victim ≤ old.nodes
  pub after : new ≡ old
  pub sends : out ≡ record { from = old.site; to = known_site old victim; body = Steal } ∷ []

-- A child that is out is redone.
pub record RedoStep (old : View) (serial : ℕ) (out : List Packet) (new : View) : Type 0 where
  pub ledger : Ledger
  pub redoes : RedoesChild old.ledger serial ledger
  pub open redoes use {entry, thief, is, out_there, not_last}
  pub after : new ≡ with_ledger old ledger
  pub sends : out ≡ []

-- the Give of a child that is out
abbrev pub give_again : Site → ℕ → Entry → Status → List Packet
give_again from serial entry (Out thief) = record { from = from; to = thief; body = Give serial entry.attempt entry.prefix } ∷ []
give_again from serial entry _ = []

-- the same of a child that is there
abbrev pub given_again : Site → ℕ → Option Entry → List Packet
given_again from serial None = []
given_again from serial (Some entry) = give_again from serial entry entry.status

-- a Give for each child that is out, by serial
abbrev pub gives_again : Site → ℕ → List Entry → List Packet
gives_again from serial [] = []
gives_again from serial (c ∷ cs) = give_again from serial c c.status ++ gives_again from (suc serial) cs

-- the Return of a finished guest
abbrev pub return_again : Site → GuestEntry → Status → List Packet
return_again from g (Finished result) = return_packets from (Guest g.name g.entry.attempt) result
return_again from g _ = []

-- the same of a guest that is there
abbrev pub returned_again : Site → Option GuestEntry → List Packet
returned_again from None = []
returned_again from (Some g) = return_again from g g.entry.status

-- a Return for each finished guest, in order
abbrev pub returns_again : Site → List GuestEntry → List Packet
returns_again from [] = []
returns_again from (g ∷ gs) = return_again from g g.entry.status ++ returns_again from gs

-- all that a node says again
abbrev pub all_again : View → List Packet
all_again view = gives_again view.site 0 view.own ++ returns_again view.site view.guests

-- the reply of an event that only sends
abbrev pub moved_by : List Packet → Reply
moved_by [] = Ignored
moved_by (p ∷ ps) = Moved
