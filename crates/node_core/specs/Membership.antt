-- What a node learns of the others.
use Rattle.std.specs.Prelude.{◌≡◌, ℕ, List}
use Rattle.node_core.specs.SiteView.{View, abort_packets, with_ledger}
use Rattle.packet_wire.specs.declared.packet.Packet.{Packet}
use Rattle.spawn_frame.specs.Aborts.{Reached}
use Rattle.steal_return.specs.Ledger.{Ledger}
use Rattle.steal_return.specs.Members.{LearnsMembers}

-- Members is learnt, and the thieves below the guests that are dropped are told.
pub record MembersStep (old : View) (incarnations : List ℕ) (out : List Packet) (new : View) : Type 0 where
  pub outs : List Reached
  pub ledger : Ledger
  pub learns : LearnsMembers old.ledger incarnations outs ledger
  pub open learns use {known, known_is, redoable, own, aborts}
  pub after : new ≡ with_ledger old ledger
  pub sends : out ≡ abort_packets old.site outs
