-- Packets that arrive at a node: steals, results and their acceptance, refusals and aborts (Cilk-NOW).
use Rattle.std.specs.Prelude.{◌≡◌, ◌⊎◌, ℕ, Bool, true, ◌||◌, List, [], ◌∷◌, slice_get}
use Rattle.std.specs.List.{list_all}
use Rattle.cover_problem.specs.Prefix.{is_prefix}
use Rattle.cover_problem.specs.Problem.{Problem}
use Rattle.node_core.specs.SiteView.{View, abort_packets, with_ledger}
use Rattle.node_core.specs.Taking.{Stays}
use Rattle.node_core.specs.declared.reply.Reply.{Reply}
use Rattle.node_core.specs.declared.reply.Reply.TheVariants.{Ignored, Moved}
use Rattle.packet_wire.specs.Gifts.{gifts_in, is_gift}
use Rattle.packet_wire.specs.declared.packet.Body.{Body}
use Rattle.packet_wire.specs.declared.packet.Body.TheVariants.{Accept, NoWork, Refuse}
use Rattle.packet_wire.specs.declared.packet.Packet.{Packet}
use Rattle.spawn_frame.specs.Aborts.{Reached}
use Rattle.spawn_frame.specs.Gifts.{is_there}
use Rattle.spawn_frame.specs.Units.{GuestEntry}
use Rattle.spawn_frame.specs.declared.child_result.ChildResult.{ChildResult}
use Rattle.spawn_frame.specs.declared.gift.Gift.{Gift}
use Rattle.spawn_frame.specs.declared.site.ChildName.{ChildName}
use Rattle.spawn_frame.specs.declared.site.Site.{Site}
use Rattle.steal_return.specs.Guests.{AdmitsGuests, DropsGuest, IsNotFinished, IsNotOpen, NoneIsNew, SettlesGuest}
use Rattle.steal_return.specs.Ledger.{Ledger}
use Rattle.steal_return.specs.Returns.{Judgement, judged, reply_to, returned}
use Rattle.steal_return.specs.Steals.{GivesChildren, GivesNothing}
use Rattle.steal_return.specs.declared.return_reply.ReturnReply.{ReturnReply}
use Rattle.steal_return.specs.declared.return_reply.ReturnReply.TheVariants as replies

-- one packet back to the sender
abbrev pub answer_packet : View → Site → Body → List Packet
answer_packet old to body = record { from = old.site; to = to; body = body } ∷ []

-- A Steal gets no work.
pub record Denies (old : View) (from : Site) (out : List Packet) (new : View) : Type 0 where
  pub because : GivesNothing old.ledger from
  pub after : new ≡ old
  pub sends : out ≡ answer_packet old from NoWork

-- A Steal gets ready own children, which one packet gives.
pub record Gives (old : View) (from : Site) (out : List Packet) (new : View) : Type 0 where
  pub body : Body
  pub spelled : is_gift body ≡ true
  pub ledger : Ledger
  pub gives : GivesChildren old.ledger from (gifts_in body) ledger
  pub open gives use {parent, alone, rising, each}
  pub after : new ≡ with_ledger old ledger
  pub sends : out ≡ answer_packet old from body

-- a Steal gets work or is told that there is none
abbrev pub StealStep : View → Site → List Packet → View → Type 0
StealStep old from out new = Denies old from out new ⊎ Gives old from out new

-- a child that is given is there already, or its prefix is one
abbrev pub is_lawful : Problem → Site → List GuestEntry → Gift → Bool
is_lawful problem from guests gift = is_there from guests gift || is_prefix problem gift.prefix

-- A Give makes guests, each of a prefix.
pub record Admits (problem : Problem) (old : View) (from : Site) (gifts : List Gift) (out : List Packet) (new : View) : Type 0 where
  pub ledger : Ledger
  pub admits : AdmitsGuests old.ledger from gifts ledger
  pub open admits use {not_older, some_new}
  pub lawful : list_all (is_lawful problem from old.guests) gifts ≡ true
  pub after : new ≡ with_ledger old ledger
  pub sends : out ≡ []

-- a Give of these children makes guests; one of an earlier incarnation, or of guests that are all there, is ignored
abbrev pub GiveStep : Problem → View → Site → List Gift → Reply → List Packet → View → Type 0
GiveStep problem old from gifts Moved out new = Admits problem old from gifts out new
GiveStep problem old from gifts Ignored out new = NoneIsNew old.ledger from gifts × Stays old out new
GiveStep problem old from gifts _ out new = ⊥

-- the packet that says what is answered to a Return
abbrev pub reply_body : ℕ → ℕ → ReturnReply → Body
reply_body serial attempt (replies.Accept result) = Accept serial attempt result
reply_body serial attempt (replies.Refuse cause) = Refuse serial attempt cause

-- A result enters and is accepted, or the held result is told, or the result is refused.
abbrev pub Answers : View → Site → ℕ → ℕ → ChildResult → Judgement → List Packet → View → Type 0
Answers old from serial attempt result judgement out new =
    (new ≡ with_ledger old (returned old.ledger serial result judgement)) × (out ≡ answer_packet old from (reply_body serial attempt (reply_to result judgement)))

-- a Return is judged, and answered so
abbrev pub ReturnStep : View → Site → ℕ → ℕ → ChildResult → List Packet → View → Type 0
ReturnStep old from serial attempt result out new =
    (judgement : Judgement) × (judged (slice_get old.own serial) from attempt ≡ judgement) × Answers old from serial attempt result judgement out new

-- An Accept settles a guest.
pub record Settles (old : View) (name : ChildName) (attempt : ℕ) (result : ChildResult) (out : List Packet) (new : View) : Type 0 where
  pub ledger : Ledger
  pub settles : SettlesGuest old.ledger name attempt result ledger
  pub open settles use {entry, is, finished}
  pub after : new ≡ with_ledger old ledger
  pub sends : out ≡ []

-- an Accept settles a finished guest, and is ignored else
abbrev pub AcceptStep : View → ChildName → ℕ → ChildResult → Reply → List Packet → View → Type 0
AcceptStep old name attempt result Moved out new = Settles old name attempt result out new
AcceptStep old name attempt result Ignored out new = IsNotFinished old.ledger name attempt × Stays old out new
AcceptStep old name attempt result _ out new = ⊥

-- A guest is dropped, and the thieves below it are told.
pub record Drops (old : View) (name : ChildName) (attempt : ℕ) (out : List Packet) (new : View) : Type 0 where
  pub outs : List Reached
  pub ledger : Ledger
  pub drops : DropsGuest old.ledger name attempt outs ledger
  pub open drops use {entry, is, open_still, own, aborts}
  pub after : new ≡ with_ledger old ledger
  pub sends : out ≡ abort_packets old.site outs

-- a Refuse or an Abort drops an open guest, and is ignored else
abbrev pub RefuseStep : View → ChildName → ℕ → Reply → List Packet → View → Type 0
RefuseStep old name attempt Moved out new = Drops old name attempt out new
RefuseStep old name attempt Ignored out new = IsNotOpen old.ledger name attempt × Stays old out new
RefuseStep old name attempt _ out new = ⊥
