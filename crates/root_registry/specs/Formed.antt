-- What is true of the registry's view, so that every packet that it puts out has a spelling.
use Rattle.std.specs.Prelude.{◌≡◌, ℕ, List, [], ◌∷◌, map, Option, None}
use Rattle.cover_problem.specs.Problem.{Problem}
use Rattle.node_core.specs.Formed.{IsFormed}
use Rattle.node_core.specs.Refusal.{IsFit}
use Rattle.node_core.specs.SiteView.{View}
use Rattle.node_core.specs.declared.event.Event.{Event}
use Rattle.node_core.specs.declared.reply.Reply.{Reply}
use Rattle.packet_wire.specs.declared.packet.Packet.{Packet}
use Rattle.root_registry.specs.RegistryStep.{RegistryStep}
use Rattle.spawn_frame.specs.Units.{Entry}
use Rattle.spawn_frame.specs.declared.unit.Unit.{Unit as WorkUnit}

-- what a unit is a child of, and its prefix: what no step changes
abbrev pub origin : Entry → Option WorkUnit × List ℕ
origin c = (c.parent, c.prefix)

-- What is true of the view of the registry: its one child is the root, and it has no guests.
pub record IsFormedRegistry (problem : Problem) (view : View) : Type 0 where
  pub formed : IsFormed problem view
  pub registry : view.site.node ≡ 0
  pub root : map origin view.own ≡ (None, []) ∷ []
  pub no_guests : view.guests ≡ []

-- The registry, of which this is true, has a step of an event that is fit.
pub record FormedRegistryStep (problem : Problem) (old : View) (event : Event) (reply : Reply) (out : List Packet) (new : View) : Type 0 where
  pub before : IsFormedRegistry problem old
  pub fit : IsFit problem event
  pub step : RegistryStep problem old event reply out new
