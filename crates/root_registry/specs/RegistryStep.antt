-- One event of the registry, which has the root and knows who takes part (the clearinghouse of Cilk-NOW).
use Rattle.std.specs.Prelude.{◌≡◌, ◌⊎◌, ℕ, suc, ◌≤◌, true, List, [], ◌∷◌, ◌++◌, drop, Option, Some, None, slice_get, ⊤}
use Rattle.cover_problem.specs.ExactCover.{IsExactCover}
use Rattle.cover_problem.specs.Numbers.{is_distinct, is_in}
use Rattle.cover_problem.specs.Problem.{Problem}
use Rattle.node_core.specs.Arrivals.{Answers, Denies, Gives, answer_packet}
use Rattle.node_core.specs.Requests.{RedoStep, gives_again, moved_by}
use Rattle.node_core.specs.SiteView.{View, with_ledger}
use Rattle.node_core.specs.declared.event.Event.{Event}
use Rattle.node_core.specs.declared.event.Event.TheVariants.{Again, Deliver, Redo}
use Rattle.node_core.specs.declared.reply.Reply.{Reply}
use Rattle.node_core.specs.declared.reply.Reply.TheVariants.{Moved}
use Rattle.packet_wire.specs.declared.packet.Body.{Body}
use Rattle.packet_wire.specs.declared.packet.Body.TheVariants.{Accept, Hello, Members, Over, Return, Steal}
use Rattle.packet_wire.specs.declared.packet.Packet.{Packet}
use Rattle.spawn_frame.specs.Units.{Entry, table_own}
use Rattle.spawn_frame.specs.declared.child_result.ChildResult.{ChildResult}
use Rattle.spawn_frame.specs.declared.child_result.ChildResult.TheVariants.{Cover, Empty}
use Rattle.spawn_frame.specs.declared.site.Site.{Site}
use Rattle.spawn_frame.specs.declared.status.Status.{Status}
use Rattle.spawn_frame.specs.declared.status.Status.TheVariants.{Done}
use Rattle.steal_return.specs.Members.{IsRedoable, redo_lost}
pub use Rattle.steal_return.specs.Members.{is_earlier_incarnation, raised}
use Rattle.steal_return.specs.Returns.{Enters, Judgement, judged, returned}

-- one packet to each node, ascending, at its known incarnation
abbrev pub to_each : Site → Body → ℕ → List ℕ → List Packet
to_each from body node [] = []
to_each from body node (k ∷ ks) = record { from = from; to = record { node = node; incarnation = k }; body = body } ∷ to_each from body (suc node) ks

-- what is known of the nodes themselves
abbrev pub known_nodes : View → List ℕ
known_nodes view = drop 1 view.known

-- A node greets: the greater incarnation is kept, a root that is out to an earlier one is redone, and all nodes are told.
pub record HelloStep (old : View) (from : Site) (out : List Packet) (new : View) : Type 0 where
  pub known : List ℕ
  pub known_is : known ≡ raised old.known from.node from.incarnation
  pub redoable : IsRedoable (is_earlier_incarnation from.node known) old.own
  pub after : new ≡ with_ledger old (record old.ledger {
    table = table_own old.table (redo_lost (is_earlier_incarnation from.node known) old.own);
    known = known;
  })
  pub sends : out ≡ to_each old.site (Members (drop 1 known)) 1 (drop 1 known)

-- the result of a child that is done
abbrev pub status_result : Status → Option ChildResult
status_result (Done result) = Some result
status_result _ = None

-- the result of a child that is there and done
abbrev pub entry_result : Option Entry → Option ChildResult
entry_result None = None
entry_result (Some entry) = status_result entry.status

-- the root's result, once it is done
abbrev pub root_result : View → Option ChildResult
root_result view = entry_result (slice_get view.own 0)

-- Over to each node
abbrev pub over_packets : View → List Packet
over_packets view = to_each view.site Over 1 (known_nodes view)

-- packets that are put out once the root is done
abbrev pub if_done : Option ChildResult → List Packet → List Packet
if_done None packets = []
if_done (Some result) packets = packets

-- a cover is counted before it is accepted
abbrev pub IsAcceptable : Problem → ChildResult → Type 0
IsAcceptable problem (Cover options) = (is_distinct options ≡ true) × IsExactCover problem (is_in options)
IsAcceptable problem Empty = ⊤

-- as at a node; where the result enters, a cover has to count right, and all nodes are told that it is over
abbrev pub RootAnswers : Problem → View → Site → ℕ → ℕ → ChildResult → Judgement → List Packet → View → Type 0
RootAnswers problem old from serial attempt result Enters out new =
    IsAcceptable problem result × (new ≡ with_ledger old (returned old.ledger serial result Enters))
    × (out ≡ answer_packet old from (Accept serial attempt result) ++ over_packets old)
RootAnswers problem old from serial attempt result judgement out new = Answers old from serial attempt result judgement out new

-- a Steal gets Over once the root is done, else it is as at a node
abbrev pub RootSteal : Option ChildResult → View → Site → List Packet → View → Type 0
RootSteal (Some result) old from out new = (new ≡ old) × (out ≡ answer_packet old from Over)
RootSteal None old from out new = Denies old from out new ⊎ Gives old from out new

-- a packet of this body arrives from a site
abbrev pub RootHears : Problem → View → Site → Body → Reply → List Packet → View → Type 0
RootHears problem old from Hello reply out new = (reply ≡ Moved) × HelloStep old from out new
RootHears problem old from Steal reply out new = (reply ≡ Moved) × RootSteal (root_result old) old from out new
RootHears problem old from (Return serial attempt result) reply out new =
    (reply ≡ Moved)
    × ((judgement : Judgement) × (judged (slice_get old.own serial) from attempt ≡ judgement) × RootAnswers problem old from serial attempt result judgement out new)
RootHears problem old from _ reply out new = ⊥

-- one event of the registry
abbrev pub RegistryStep : Problem → View → Event → Reply → List Packet → View → Type 0
RegistryStep problem old (Redo serial) reply out new = (reply ≡ Moved) × RedoStep old serial out new
RegistryStep problem old (Deliver packet) reply out new =
    (packet.to ≡ old.site) × (packet.from.node ≤ old.nodes) × RootHears problem old packet.from packet.body reply out new
RegistryStep problem old Again reply out new =
    (out ≡ gives_again old.site 0 old.own ++ if_done (root_result old) (over_packets old)) × (new ≡ old) × (reply ≡ moved_by out)
RegistryStep problem old _ reply out new = ⊥
