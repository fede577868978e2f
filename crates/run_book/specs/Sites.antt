-- Sites of a run: how each begins, and its steps.
use Rattle.std.specs.Prelude.{◌≡◌, ℕ, zero, suc, ◌≤◌, List, []}
use Rattle.cover_problem.specs.Problem.{IsProblem, Problem, uncoloured}
use Rattle.node_core.specs.Acting.{StepOf}
use Rattle.node_core.specs.Formed.{IsFormedNode, MayBegin}
use Rattle.node_core.specs.NodeStep.{NodeStep}
use Rattle.node_core.specs.Requests.{registry}
use Rattle.node_core.specs.SiteView.{View, opening_view}
use Rattle.node_core.specs.declared.event.Event.{Event}
use Rattle.node_core.specs.declared.reply.Reply.{Reply}
use Rattle.packet_wire.specs.declared.packet.Packet.{Packet}
use Rattle.root_registry.specs.Formed.{IsFormedRegistry}
use Rattle.root_registry.specs.RegistryStep.{RegistryStep}
use Rattle.spawn_frame.specs.declared.site.Site.{Site}
use Rattle.steal_return.specs.Ledger.{opening_ledger, root_ledger}
use Rattle.spawn_frame.specs.declared.site.TheConstants.{LAST_NODE}

-- a run: the problem, and how many nodes there are beside the registry
pub record RunName : Type 0 where
  pub problem : Problem
  pub nodes : ℕ

-- A run that there may be.
pub record IsRun (run : RunName) : Type 0 where
  pub lawful : IsProblem run.problem
  pub some : 1 ≤ run.nodes
  pub most : run.nodes ≤ LAST_NODE

-- a step of the registry at node 0, else of a node
abbrev pub StepAt : ℕ → Problem → View → Event → Reply → List Packet → View → Type 0
StepAt zero problem old event reply out new = RegistryStep problem old event reply out new
StepAt (suc node) problem old event reply out new = NodeStep problem old event reply out new

-- the view of a site that begins: at node 0 that of the registry
abbrev pub opening_at : ℕ → Site → ℕ → ℕ → View
opening_at zero site nodes limit = opening_view (root_ledger nodes)
opening_at (suc node) site nodes limit = opening_view (opening_ledger site nodes limit)

-- the same by the site, with a limit on names
abbrev pub opening_of : RunName → Site → ℕ → View
opening_of run site limit = opening_at site.node site run.nodes limit

-- a site that may begin: the registry, or a node of the run
abbrev pub MayBeginAt : ℕ → Site → ℕ → ℕ → Type 0
MayBeginAt zero site nodes limit = site ≡ registry
MayBeginAt (suc node) site nodes limit = MayBegin site nodes limit

-- the same by the site
abbrev pub MayBeginIn : RunName → Site → ℕ → Type 0
MayBeginIn run site limit = MayBeginAt site.node site run.nodes limit

-- what is true of every view that the site reaches
abbrev pub FormedAt : ℕ → Problem → View → Type 0
FormedAt zero problem view = IsFormedRegistry problem view
FormedAt (suc node) problem view = IsFormedNode problem view

-- each step of a core is one of the site
abbrev pub StepsAt : ℕ → StepOf → Type 0
StepsAt node Step =
    (problem : Problem) (old : View) (event : Event) (reply : Reply) (out : List Packet) (new : View)
    → Step problem old event reply out new → StepAt node problem old event reply out new

-- the run of no problem
abbrev pub no_run : RunName
no_run = record { problem = uncoloured [] 0 []; nodes = 0 }
