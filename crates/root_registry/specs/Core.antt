-- The registry as its users see it, and what goes to it.
use Rattle.std.specs.Prelude.{◌≡◌, ℕ, Bool, true, false, List, ◌++◌}
use Rattle.cover_problem.specs.Problem.{Problem}
use Rattle.node_core.specs.Acting.{AnswersShare, GivesShare, SiteCore}
use Rattle.node_core.specs.Requests.{gives_again, moved_by}
use Rattle.node_core.specs.SiteView.{View, opening_view}
use Rattle.node_core.specs.declared.event.Event.{Event}
use Rattle.node_core.specs.declared.reply.Reply.{Reply}
use Rattle.packet_wire.specs.declared.packet.Body.{Body}
use Rattle.packet_wire.specs.declared.packet.Body.TheVariants.{Hello, Members, Return, Steal}
use Rattle.packet_wire.specs.declared.packet.Packet.{Packet}
use Rattle.root_registry.specs.RegistryStep.{RegistryStep, RootHears, if_done, over_packets, root_result, to_each}
use Rattle.spawn_frame.specs.declared.site.Site.{Site}
use Rattle.steal_return.specs.Ledger.{root_ledger}

-- the registry that begins, with the root alone
abbrev pub opening_registry_core : Problem → ℕ → SiteCore
opening_registry_core problem nodes = record { problem = problem; view = opening_view (root_ledger nodes) }

-- the incarnations of the nodes, told to each of them
abbrev pub members_packets : Site → List ℕ → List Packet
members_packets from incarnations = to_each from (Members incarnations) 1 incarnations

-- what nodes say to the registry
abbrev pub goes_to_registry : Body → Bool
goes_to_registry Hello = true
goes_to_registry Steal = true
goes_to_registry (Return serial attempt result) = true
goes_to_registry _ = false

-- all that the registry says again
abbrev pub root_again : View → List Packet
root_again view = gives_again view.site 0 view.own ++ if_done (root_result view) (over_packets view)

-- that is what it says again
abbrev pub SaysAgain : View → Reply → List Packet → Type 0
SaysAgain view reply out = (out ≡ root_again view) × (reply ≡ moved_by out)

-- the event is a step of the registry, and of the ready children a Steal gets the one of least serial
abbrev pub AnswersEvent : Problem → View → Event → View → Reply → List Packet → Type 0
AnswersEvent problem old event new reply out = RegistryStep problem old event reply out new × GivesShare old event out

-- the same of a packet of this body
abbrev pub AnswersBody : Problem → View → Site → Body → View → Reply → List Packet → Type 0
AnswersBody problem old from body new reply out = RootHears problem old from body reply out new × AnswersShare old from body out
