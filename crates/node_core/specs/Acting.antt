-- What a core does with an event.
use Rattle.std.specs.Prelude.{◌≡◌, ℕ, Bool, true, false, List, ◌++◌, IfOk, Option, Some, None, Result, Ok, Err, ⊤}
use Rattle.cover_problem.specs.Prefix.{is_prefix}
use Rattle.cover_problem.specs.Problem.{Problem}
use Rattle.node_core.specs.Arrivals.{answer_packet}
use Rattle.node_core.specs.Formed.{AllFormed}
use Rattle.node_core.specs.NodeStep.{HearStep, NodeStep}
use Rattle.node_core.specs.Outgoing.{Outgoing, Sends}
use Rattle.node_core.specs.SiteView.{View, opening_view, unit_in}
use Rattle.node_core.specs.declared.act_fault.ActFault.{ActFault}
use Rattle.node_core.specs.declared.act_fault.ActFault.TheVariants.{Memory}
use Rattle.node_core.specs.declared.event.Event.{Event}
use Rattle.node_core.specs.declared.event.Event.TheVariants.{Deliver}
use Rattle.node_core.specs.declared.reply.Reply.{Reply}
use Rattle.packet_wire.specs.Gifts.{gifts_in, is_gift}
use Rattle.packet_wire.specs.declared.packet.Body.{Body}
use Rattle.packet_wire.specs.declared.packet.Body.TheVariants.{Steal}
use Rattle.packet_wire.specs.declared.packet.Packet.{Packet}
use Rattle.spawn_frame.specs.Gifts.{serials_of}
use Rattle.spawn_frame.specs.Units.{Entry}
use Rattle.spawn_frame.specs.declared.site.Site.{Site}
use Rattle.spawn_frame.specs.declared.unit.Unit.{Unit as WorkUnit}
use Rattle.steal_return.specs.Ledger.{opening_ledger}
use Rattle.steal_return.specs.Shares.{chosen}

-- a step of a machine, by its problem, the view before, the event, the reply, what is put out and the view after
abbrev pub StepOf : Type 1
StepOf = Problem → View → Event → Reply → List Packet → View → Type 0

-- a fault but that memory ran out, which is none of the machine's
abbrev pub named_fault : ActFault → Option ActFault
named_fault Memory = None
named_fault fault = Some fault

-- the refusal in an answer
abbrev pub refusal_told : {A : Type 0} → Result A ActFault → Option ActFault
refusal_told (Ok answer) = None
refusal_told (Err fault) = named_fault fault

-- the children that are given to the site are the ones that the product chooses
abbrev pub GivesShareTo : View → Site → List Packet → Type 0
GivesShareTo old from out = (body : Body) → is_gift body ≡ true → out ≡ answer_packet old from body → serials_of (gifts_in body) ≡ chosen old.own

-- the same of a packet that asks for work
abbrev pub AnswersShare : View → Site → Body → List Packet → Type 0
AnswersShare old from Steal out = GivesShareTo old from out
AnswersShare old from _ out = ⊤

-- a node hears a packet of this body, and of the ready children a Steal gets its share
abbrev pub AnswersHeard : Problem → View → Site → Body → View → Reply → List Packet → Type 0
AnswersHeard problem old from body new reply out = HearStep problem old from body reply out new × AnswersShare old from body out

-- the same of a packet that is delivered
abbrev pub AnswersDelivery : Problem → View → Packet → View → Reply → List Packet → Type 0
AnswersDelivery problem old packet new reply out = NodeStep problem old (Deliver packet) reply out new × AnswersShare old packet.from packet.body out

-- of the ready children a Steal gets its share
abbrev pub GivesShare : View → Event → List Packet → Type 0
GivesShare old (Deliver packet) out = AnswersShare old packet.from packet.body out
GivesShare old _ out = ⊤

-- An event is a step of the machine, and each packet has a spelling.
pub record Acts (Step : StepOf) (problem : Problem) (old : View) (event : Event) (reply : Reply) (out : List Packet) (new : View) : Type 0 where
  pub steps : Step problem old event reply out new
  pub least : GivesShare old event out
  pub formed : AllFormed out

-- the same of the reply and the packets of an event that leaves this view
abbrev pub ActsTo : StepOf → Problem → View → Event → View → Reply → List Packet → Type 0
ActsTo Step problem old event new reply out = Acts Step problem old event reply out new

-- packets of which this is so are appended to each list
abbrev pub Sending : Outgoing → Outgoing → (List Packet → Type 0) → Type 0
Sending old new P = (out : List Packet) × Sends old out new × P out

-- what is so of the answer to an event that isn't refused, and of the packets that it sends
abbrev pub Answered : {A : Type 0} → Result A ActFault → Outgoing → Outgoing → (A → List Packet → Type 0) → Type 0
Answered result old new P = IfOk result (λ answer. Sending old new (P answer))

-- the same, of packets that are appended to a list
abbrev pub PutsOut : {A : Type 0} → Result A ActFault → List Packet → List Packet → (A → List Packet → Type 0) → Type 0
PutsOut result old new P = IfOk result (λ answer. (out : List Packet) × (new ≡ old ++ out) × P answer out)

-- the same, of packets that are appended to two lists
abbrev pub PutsOutBoth : {A : Type 0} → Result A ActFault → List Packet × List Packet → List Packet × List Packet
    → (A → List Packet → Type 0) → Type 0
PutsOutBoth result old new P =
    IfOk result (λ answer. (out : List Packet) × (new.0 ≡ old.0 ++ out) × (new.1 ≡ old.1 ++ out) × P answer out)

-- some packets are appended to each list
abbrev pub MaySend : Outgoing → Outgoing → Type 0
MaySend old new = (out : List Packet) × Sends old out new

-- a packet is delivered
abbrev pub is_delivery : Event → Bool
is_delivery (Deliver packet) = true
is_delivery _ = false

-- each unit of the site is of a prefix
abbrev pub HasPrefixes : Problem → View → Type 0
HasPrefixes problem view = (unit : WorkUnit) (entry : Entry) → unit_in view unit ≡ Some entry → is_prefix problem entry.prefix ≡ true

-- a core as its users see it: the problem, and all that its site knows
pub record SiteCore : Type 0 where
  pub problem : Problem
  pub view : View

-- a node that begins
abbrev pub opening_core : Problem → Site → ℕ → ℕ → SiteCore
opening_core problem site nodes limit = record { problem = problem; view = opening_view (opening_ledger site nodes limit) }
