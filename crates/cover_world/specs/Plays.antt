-- Runs that are told event by event, with their packets.
use Rattle.std.specs.Prelude.{◌≡◌, ℕ, Bool, List, [], ◌∷◌, ◌++◌, Option, Some, None, option_map, slice_get}
use Rattle.cover_problem.specs.Problem.{Problem}
use Rattle.cover_world.specs.Worlds.{Run, World, WorldMove, WorldStep, go, stay}
use Rattle.node_core.specs.SiteView.{View, unit_in}
use Rattle.packet_wire.specs.declared.packet.Packet.{Packet}
use Rattle.spawn_frame.specs.Units.{Entry}
use Rattle.spawn_frame.specs.declared.site.Site.{Site}
use Rattle.spawn_frame.specs.declared.status.Status.{Status}
use Rattle.spawn_frame.specs.declared.unit.Unit.{Unit as WorkUnit}
use Rattle.spawn_frame.specs.declared.unit.Unit.TheVariants.{Guest}

-- the events of a run, in order
abbrev pub events_of : {problem : Problem} {start end : World} → Run problem start end → List WorldMove
events_of stay = []
events_of (go run event step) = events_of run ++ event ∷ []

-- There is a run of these events from the world, which sends these packets in this order and ends in a world like that.
pub record Plays (problem : Problem) (start : World) (events : List WorldMove) (packets : List Packet) (IsEnd : World → Type 0) : Type 0 where
  pub end : World
  pub run : Run problem start end
  pub plays : events_of run ≡ events
  pub sends : end.sent ≡ packets
  pub ends : IsEnd end

-- the world refuses the event: there is no step of it
abbrev pub IsRefused : Problem → World → WorldMove → Type 0
IsRefused problem world event = (new : World) → WorldStep problem world event new → ⊥

-- what a site has of a unit, where there is the site
abbrev pub entry_at : Option View → WorkUnit → Option Entry
entry_at None unit = None
entry_at (Some view) unit = unit_in view unit

-- what a node holds of a unit
abbrev pub entry_in : World → ℕ → WorkUnit → Option Entry
entry_in world node unit = entry_at (slice_get world.sites node) unit

-- the status of a unit at a node
abbrev pub status_in : World → ℕ → WorkUnit → Option Status
status_in world node unit = option_map (λ entry. entry.status) (entry_in world node unit)

-- whether a node is over
abbrev pub over_in : World → ℕ → Option Bool
over_in world node = option_map (λ view. view.over) (slice_get world.sites node)

-- ---- the sites of the runs of two nodes

-- the registry's site
abbrev pub site0 : Site
site0 = record { node = 0; incarnation = 1 }

-- the first node in its first incarnation
abbrev pub site1 : Site
site1 = record { node = 1; incarnation = 1 }

-- the second node in its first incarnation
abbrev pub site2 : Site
site2 = record { node = 2; incarnation = 1 }

-- the first node in its second incarnation
abbrev pub site1_again : Site
site1_again = record { node = 1; incarnation = 2 }

-- the second node in its second incarnation
abbrev pub site2_again : Site
site2_again = record { node = 2; incarnation = 2 }

-- a limit on names for each of two nodes
abbrev pub limits : List ℕ
limits = 9 ∷ 9 ∷ []

-- the root as a guest, at an attempt
abbrev pub root_guest : ℕ → WorkUnit
root_guest attempt = Guest (record { site = site0; serial = 0 }) attempt
