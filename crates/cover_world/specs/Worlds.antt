-- The registry and the nodes with all that was ever sent, and how they go on together.
use Rattle.std.specs.Prelude.{◌≡◌, ◌⊎◌, ℕ, zero, suc, ◌<◌, false, List, [], ◌∷◌, ◌++◌, Some, slice_get, slice_set, ⊤}
use Rattle.cover_problem.specs.Problem.{Problem}
use Rattle.cover_problem.specs.Search.{first}
use Rattle.node_core.specs.NodeStep.{NodeStep}
use Rattle.node_core.specs.SiteView.{View}
use Rattle.node_core.specs.declared.event.Event.{Event}
use Rattle.node_core.specs.declared.event.Event.TheVariants.{Deliver}
use Rattle.node_core.specs.declared.reply.Reply.{Reply}
use Rattle.packet_wire.specs.declared.packet.Packet.{Packet}
use Rattle.root_registry.specs.RegistryStep.{RegistryStep}
use Rattle.steal_return.specs.Ledger.{opening_ledger, root_ledger}

-- the registry and the nodes in their present incarnations, and the network as the packets ever sent
pub record World : Type 0 where
  pub sites : List View  -- by node, the registry first
  pub sent : List Packet  -- every packet that was ever sent

-- a node that begins
abbrev pub opening_node : ℕ → ℕ → ℕ → ℕ → View
opening_node nodes node incarnation limit = record {
  ledger = opening_ledger (record { node = node; incarnation = incarnation }) nodes limit;
  over = false;
}

-- the registry that begins
abbrev pub opening_registry : ℕ → View
opening_registry nodes = record { ledger = root_ledger nodes; over = false }

-- nodes from this number on, each with a names limit
abbrev pub opening_nodes : ℕ → ℕ → List ℕ → List View
opening_nodes nodes node [] = []
opening_nodes nodes node (limit ∷ limits) = opening_node nodes node 1 limit ∷ opening_nodes nodes (suc node) limits

-- one node for each names limit, and the registry
abbrev pub opening_world : ℕ → List ℕ → World
opening_world nodes limits = record { sites = opening_registry nodes ∷ opening_nodes nodes 1 limits; sent = [] }

-- a move of the world: a site has an event, or a node restarts in this incarnation with this limit on names
pub data WorldMove : Type 0 where
  Acts : (node : ℕ) → (event : Event) → WorldMove
  Restarts : (node incarnation limit : ℕ) → WorldMove

-- a step of the registry at node 0, else of a node
abbrev pub SiteStep : ℕ → Problem → View → Event → Reply → List Packet → View → Type 0
SiteStep zero problem old event reply out new = RegistryStep problem old event reply out new
SiteStep (suc node) problem old event reply out new = NodeStep problem old event reply out new

-- a packet that is delivered was sent at some time
abbrev pub WasSent : List Packet → Event → Type 0
WasSent sent (Deliver packet) = (k : ℕ) × (slice_get sent k ≡ Some packet)
WasSent sent _ = ⊤

-- One site of the world takes a step, and its packets are added to those sent.
pub record SiteActs (problem : Problem) (old : World) (node : ℕ) (event : Event) (new : World) : Type 0 where
  pub before : View
  pub reply : Reply
  pub out : List Packet
  pub after : View
  pub is : slice_get old.sites node ≡ Some before
  pub was_sent : WasSent old.sent event
  pub step : SiteStep node problem before event reply out after
  pub world : new ≡ record { sites = slice_set old.sites node after; sent = old.sent ++ out }

-- a node restarts, under a greater incarnation
pub record SiteRestarts (old : World) (node incarnation limit : ℕ) (new : World) : Type 0 where
  pub before : View
  pub is : slice_get old.sites node ≡ Some before
  pub not_registry : 0 < node
  pub greater : before.site.incarnation < incarnation
  pub world : new ≡ record old { sites = slice_set old.sites node (opening_node before.nodes node incarnation limit) }

-- one step of a world
abbrev pub WorldStep : Problem → World → WorldMove → World → Type 0
WorldStep problem old (Acts node event) new = SiteActs problem old node event new
WorldStep problem old (Restarts node incarnation limit) new = SiteRestarts old node incarnation limit new

-- a run from one world to another, step by step
pub data Run (problem : Problem) (start : World) : World → Type 0 where
  stay : Run problem start start
  go : {old new : World} → Run problem start old → (event : WorldMove) → WorldStep problem old event new → Run problem start new

-- one run after another
pub after : {problem : Problem} {start middle end : World} → Run problem start middle → Run problem middle end → Run problem start end
after first stay = first
after first (go run event step) = go (after first run) event step

-- at some moment of the run
abbrev pub SomeTime : {problem : Problem} {start end : World} → (World → Type 0) → Run problem start end → Type 0
SomeTime {end = end} P stay = P end
SomeTime P (go {new = new} run event step) = SomeTime P run ⊎ P new

-- at each step of the run
abbrev pub EachStep : {problem : Problem} {start end : World} → (World → WorldMove → World → Type 0) → Run problem start end → Type 0
EachStep P stay = ⊤
EachStep P (go {old = old} {new = new} run event step) = EachStep P run × P old event new
