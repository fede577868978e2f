-- What the events of a world's caller mean, and which of them are refused.
use Rattle.std.specs.Prelude.{◌≡◌, ℕ, zero, suc, List, Option, Some, None, option_map, Result, Ok, Err, slice_get, max, nat_le, ◌==◌, ◌||◌, if◌then◌else◌, ⊤}
use Rattle.std.specs.Option.{option_map_or}
use Rattle.brancher.specs.Finding.{Finding, finding_by}
use Rattle.cover_problem.specs.Problem.{Problem}
use Rattle.cover_problem.specs.Search.{outcome}
use Rattle.cover_world.specs.Plays.{entry_in}
use Rattle.cover_world.specs.Worlds.{Acts, Restarts, World, WorldMove, WorldStep}
use Rattle.cover_world.specs.declared.sites.TheConstants.{NAMES_LIMIT}
use Rattle.cover_world.specs.declared.world_event.WorldEvent.{WorldEvent}
use Rattle.cover_world.specs.declared.world_event.WorldEvent.TheVariants as calls
use Rattle.cover_world.specs.declared.world_fault.WorldFault.{WorldFault}
use Rattle.cover_world.specs.declared.world_fault.WorldFault.TheVariants as faults
use Rattle.node_core.specs.Formed.{AllFormed}
use Rattle.node_core.specs.Refusal.{IsNodeView, node_refusal}
use Rattle.node_core.specs.SiteView.{View}
use Rattle.node_core.specs.declared.act_fault.ActFault.{ActFault}
use Rattle.node_core.specs.declared.act_fault.ActFault.TheVariants as act_faults
use Rattle.node_core.specs.declared.event.Event.{Event}
use Rattle.node_core.specs.declared.event.Event.TheVariants as events
use Rattle.node_core.specs.declared.reply.Reply.{Reply}
use Rattle.packet_wire.specs.declared.packet.Packet.{Packet}
use Rattle.root_registry.specs.Refusal.{IsRegistryView, registry_refusal}
use Rattle.spawn_frame.specs.Tables.{prefix_in}
use Rattle.spawn_frame.specs.declared.unit.Job.{Job}

-- ---- what an event means

-- how many children each node may name
abbrev pub names_limit : ℕ
names_limit = NAMES_LIMIT

-- the finding of the prefix with so much fuel
abbrev pub finding_of : Problem → List ℕ → ℕ → Finding
finding_of problem prefix fuel = finding_by prefix fuel (outcome problem prefix fuel)

-- what the world finds for a job: the prefix is that of its unit, and no fuel counts as one
abbrev pub searched : Problem → World → ℕ → Job → ℕ → Finding
searched problem world node job fuel = finding_of problem (prefix_in (entry_in world node job.unit)) (max 1 fuel)

-- a packet comes to the node that it is for
abbrev pub delivery : Packet → WorldMove
delivery packet = Acts packet.to.node (events.Deliver packet)

-- the move that an event is; one that delivers a packet that was never sent is none
abbrev pub meaning : Problem → World → WorldEvent → Option WorldMove
meaning problem world (calls.Take node) = Some (Acts node events.Take)
meaning problem world (calls.Post node job fuel) = Some (Acts node (events.Post job (searched problem world node job fuel)))
meaning problem world (calls.Finish node unit) = Some (Acts node (events.Finish unit))
meaning problem world (calls.Ask node victim) = Some (Acts node (events.Ask victim))
meaning problem world (calls.Redo node serial) = Some (Acts node (events.Redo serial))
meaning problem world (calls.Again node) = Some (Acts node events.Again)
meaning problem world (calls.Greet node) = Some (Acts node events.Greet)
meaning problem world (calls.Deliver place) = option_map delivery (slice_get world.sent place)
meaning problem world (calls.Restart node incarnation) = Some (Restarts node incarnation names_limit)

-- ---- which are refused

-- what a site refuses
abbrev pub site_refusal : ℕ → Problem → View → Event → Option ActFault
site_refusal zero problem view event = registry_refusal problem view event
site_refusal (suc node) problem view event = node_refusal problem view event

-- a site that there is refuses an event for its own cause
abbrev pub acting_refusal : Problem → Option View → ℕ → Event → Option WorldFault
acting_refusal problem None node event = Some faults.NoSuchNode
acting_refusal problem (Some view) node event = option_map faults.Core (site_refusal node problem view event)

-- a node that there is restarts under a greater incarnation, and the registry never does
abbrev pub restart_refusal : Option View → ℕ → ℕ → Option WorldFault
restart_refusal None node incarnation = Some faults.NoSuchNode
restart_refusal (Some view) node incarnation =
    if node == 0 || nat_le incarnation view.site.incarnation then Some faults.OldIncarnation else None

-- the first fault of a move
abbrev pub move_refusal : Problem → World → WorldMove → Option WorldFault
move_refusal problem world (Acts node event) = acting_refusal problem (slice_get world.sites node) node event
move_refusal problem world (Restarts node incarnation limit) = restart_refusal (slice_get world.sites node) node incarnation

-- the first fault of an event
abbrev pub world_refusal : Problem → World → WorldEvent → Option WorldFault
world_refusal problem world event = option_map_or (move_refusal problem world) (meaning problem world event) (Some faults.NoSuchPacket)

-- ---- when there is a step

-- what is true of the view of each site: the registry's is at node 0
abbrev pub IsSiteView : ℕ → View → Type 0
IsSiteView zero view = IsRegistryView view
IsSiteView (suc node) view = IsNodeView view

-- What is true of each world: its sites stand by their nodes, and every packet that was sent has a spelling.
pub record IsWorldView (world : World) : Type 0 where
  pub sites : (node : ℕ) (view : View) → slice_get world.sites node ≡ Some view → IsSiteView node view
  pub formed : AllFormed world.sent

-- The world has a step of the event.
pub record WorldActs (problem : Problem) (old : World) (event : WorldEvent) : Type 0 where
  pub move : WorldMove
  pub new : World
  pub is : meaning problem old event ≡ Some move
  pub step : WorldStep problem old move new

-- ---- which fault is told

-- the fault of a site, as one of the world
abbrev pub world_fault : ActFault → WorldFault
world_fault act_faults.Memory = faults.Memory
world_fault fault = faults.Core fault

-- what a site answers, as an answer of the world
abbrev pub world_answer : Result Reply ActFault → Result Reply WorldFault
world_answer (Ok reply) = Ok reply
world_answer (Err fault) = Err (world_fault fault)

-- what a fault says of the refusal: which it is, and that memory ran out, that there is none
abbrev pub FaultTells : WorldFault → Option WorldFault → Type 0
FaultTells faults.Memory refusal = refusal ≡ None
FaultTells fault refusal = refusal ≡ Some fault

-- what an answer says of the refusal: that there is none, or which it is
abbrev pub AnswerTells : {A : Type 0} → Result A WorldFault → Option WorldFault → Type 0
AnswerTells (Ok answer) refusal = refusal ≡ None
AnswerTells (Err fault) refusal = FaultTells fault refusal

-- the same where memory is taken before the event is tested: that it ran out says nothing
abbrev pub FaultMayTell : WorldFault → Option WorldFault → Type 0
FaultMayTell faults.Memory refusal = ⊤
FaultMayTell fault refusal = refusal ≡ Some fault

-- the same of an answer
abbrev pub AnswerMayTell : {A : Type 0} → Result A WorldFault → Option WorldFault → Type 0
AnswerMayTell (Ok answer) refusal = refusal ≡ None
AnswerMayTell (Err fault) refusal = FaultMayTell fault refusal

-- what the answer to an event says: for the search of a job and for the copy of a packet memory is taken first
abbrev pub EventTells : {A : Type 0} → WorldEvent → Result A WorldFault → Option WorldFault → Type 0
EventTells (calls.Post node job fuel) result refusal = AnswerMayTell result refusal
EventTells (calls.Deliver place) result refusal = AnswerMayTell result refusal
EventTells _ result refusal = AnswerTells result refusal
