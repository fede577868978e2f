-- The cores of the sites of a world.
use Rattle.std.specs.Prelude.{◌≡◌, ℕ, suc, ◌≤◌, ◌<◌, Bool, true, false, ◌&&◌, ◌==◌, List, [], ◌∷◌, ◌++◌, length, map, Option, Some, None, slice_get, slice_set, ⊤}
use Rattle.cover_problem.specs.Prefix.{is_prefix}
use Rattle.cover_problem.specs.Problem.{Problem}
use Rattle.cover_world.specs.Moves.{FaultMayTell, acting_refusal}
use Rattle.cover_world.specs.Plays.{entry_at}
use Rattle.cover_world.specs.Worlds.{SiteStep, opening_node, opening_nodes, opening_registry}
use Rattle.cover_world.specs.declared.world_fault.WorldFault.{WorldFault}
use Rattle.node_core.specs.Acting.{Acts, SiteCore, opening_core}
use Rattle.node_core.specs.Formed.{AllFormed}
use Rattle.node_core.specs.SiteView.{View}
use Rattle.node_core.specs.declared.event.Event.{Event}
use Rattle.node_core.specs.declared.event.Event.TheVariants.{Post}
use Rattle.node_core.specs.declared.reply.Reply.{Reply}
use Rattle.packet_wire.specs.declared.packet.Packet.{Packet}
use Rattle.spawn_frame.specs.Tables.{is_here, prefix_in}
use Rattle.spawn_frame.specs.Units.{Entry, Table, unit_of}
use Rattle.spawn_frame.specs.declared.unit.Job.{Job}
use Rattle.brancher.specs.Finding.{Finding}
use Rattle.spawn_frame.specs.declared.site.TheConstants.{LAST_NODE}

-- the sites of a world, as its callers see them
pub record SitesCore : Type 0 where
  pub problem : Problem
  pub sites : List View

-- the views of the cores, the registry's first
abbrev pub views_of : SiteCore → List SiteCore → List View
views_of registry nodes = registry.view ∷ map (λ c. c.view) nodes

-- The core is of the problem, and of this node.
pub record IsCoreOf (problem : Problem) (node : ℕ) (core : SiteCore) : Type 0 where
  pub problem_is : core.problem ≡ problem
  pub node_is : core.view.site.node ≡ node

-- Nodes from this number on, each with its core.
abbrev pub AreNodes : Problem → ℕ → List SiteCore → Type 0
AreNodes problem node [] = ⊤
AreNodes problem node (core ∷ cores) = IsCoreOf problem node core × AreNodes problem (suc node) cores

-- Each site has its core, and there are one to sixteen nodes.
pub record AreSites (problem : Problem) (registry : SiteCore) (nodes : List SiteCore) : Type 0 where
  pub registry_is : registry.problem ≡ problem
  pub nodes_are : AreNodes problem 1 nodes
  pub some : 1 ≤ length nodes
  pub few : length nodes ≤ LAST_NODE

-- the cores of nodes that begin, from this number on, each with a names limit
abbrev pub opening_cores : Problem → ℕ → ℕ → List ℕ → List SiteCore
opening_cores problem nodes node [] = []
opening_cores problem nodes node (limit ∷ limits) =
    opening_core problem (record { node = node; incarnation = 1 }) nodes limit ∷ opening_cores problem nodes (suc node) limits

-- the sites of a world that begins
abbrev pub opening_sites : Problem → ℕ → List ℕ → SitesCore
opening_sites problem nodes limits = record { problem = problem; sites = opening_registry nodes ∷ opening_nodes nodes 1 limits }

-- The site of a node takes a step.
pub record ActsAt (problem : Problem) (old : List View) (node : ℕ) (event : Event) (reply : Reply) (out : List Packet) (new : List View) : Type 0 where
  pub before : View
  pub after : View
  pub is : slice_get old node ≡ Some before
  pub acts : Acts (SiteStep node) problem before event reply out after
  pub sites : new ≡ slice_set old node after

-- packets of which this is so are appended to the list
abbrev pub Appends : List Packet → List Packet → (List Packet → Type 0) → Type 0
Appends old new P = (out : List Packet) × (new ≡ old ++ out) × P out

-- A node restarts, under a greater incarnation.
pub record BeginsAnew (old : List View) (node incarnation limit : ℕ) (new : List View) : Type 0 where
  pub before : View
  pub is : slice_get old node ≡ Some before
  pub not_registry : 0 < node
  pub greater : before.site.incarnation < incarnation
  pub sites : new ≡ slice_set old node (opening_node before.nodes node incarnation limit)

-- A unit of a site that works at it, with a prefix that is one.
pub record IsSearchable (problem : Problem) (view : Option View) (job : Job) (prefix : List ℕ) : Type 0 where
  pub is : prefix_in (entry_at view job.unit) ≡ prefix
  pub lawful : is_prefix problem prefix ≡ true

-- whatever is found for the job, the site refuses it with this fault
abbrev pub NoneIsTaken : Problem → Option View → ℕ → Job → WorldFault → Type 0
NoneIsTaken problem view node job fault = (finding : Finding) → FaultMayTell fault (acting_refusal problem view node (Post job finding))

-- What is true of a world's parts: it searches for its own problem, and every packet that was sent has a spelling.
pub record IsWorld (problem searched : Problem) (sent : List Packet) : Type 0 where
  pub searched_is : searched ≡ problem
  pub formed : AllFormed sent

-- a worker of the site has the unit, at this attempt
abbrev pub is_at_work : ℕ → Option Entry → Bool
is_at_work attempt None = false
is_at_work attempt (Some entry) = is_here entry.status && entry.attempt == attempt

-- the same of a job
abbrev pub has_job : Table → Job → Bool
has_job table job = is_at_work job.attempt (unit_of table job.unit)
