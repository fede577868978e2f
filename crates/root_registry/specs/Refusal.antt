-- What the registry refuses: the first fault that an event meets.
use Rattle.std.specs.Prelude.{◌≡◌, Bool, true, false, if◌then◌else◌, List, Option, Some, None, slice_get}
use Rattle.cover_problem.specs.Problem.{Problem}
use Rattle.cover_problem.specs.Verdict.{verdict_of}
use Rattle.cover_problem.specs.declared.verdict.Verdict.{Verdict}
use Rattle.cover_problem.specs.declared.verdict.Verdict.TheVariants as verdicts
use Rattle.node_core.specs.Refusal.{any_spent, is_misdirected, redo_refusal}
use Rattle.node_core.specs.SiteView.{View}
use Rattle.node_core.specs.declared.act_fault.ActFault.{ActFault}
use Rattle.node_core.specs.declared.act_fault.ActFault.TheVariants as faults
use Rattle.node_core.specs.declared.event.Event.{Event}
use Rattle.node_core.specs.declared.event.Event.TheVariants.{Again, Deliver, Redo}
use Rattle.node_core.specs.declared.reply.Reply.{Reply}
use Rattle.packet_wire.specs.declared.packet.Body.{Body}
use Rattle.packet_wire.specs.declared.packet.Body.TheVariants.{Hello, Return}
use Rattle.packet_wire.specs.declared.packet.Packet.{Packet}
use Rattle.root_registry.specs.RegistryStep.{RegistryStep, is_earlier_incarnation, raised}
use Rattle.spawn_frame.specs.declared.child_result.ChildResult.{ChildResult}
use Rattle.spawn_frame.specs.declared.child_result.ChildResult.TheVariants.{Cover, Empty}
use Rattle.spawn_frame.specs.declared.site.Site.{Site}
use Rattle.steal_return.specs.Returns.{Enters, Judgement, judged}

-- a Hello is learnt, unless the root would have to be redone and stands at its last attempt
abbrev pub hello_refusal : View → Site → Option ActFault
hello_refusal view from =
    if any_spent (is_earlier_incarnation from.node (raised view.known from.node from.incarnation)) view.own
    then Some faults.NamesSpent
    else None

-- the verdict finds nothing wrong
abbrev pub is_exact : Verdict → Bool
is_exact verdicts.Exact = true
is_exact _ = false

-- no cover, or one that counts right
abbrev pub is_acceptable : Problem → ChildResult → Bool
is_acceptable problem (Cover options) = is_exact (verdict_of problem options)
is_acceptable problem Empty = true

-- a cover that enters has to count right
abbrev pub return_refusal : Problem → ChildResult → Judgement → Option ActFault
return_refusal problem result Enters =
    if is_acceptable problem result then None else Some faults.BadCover
return_refusal problem result _ = None

-- of the bodies that arrive, Hello and Return may be refused
abbrev pub root_hear_refusal : Problem → View → Site → Body → Option ActFault
root_hear_refusal problem view from Hello = hello_refusal view from
root_hear_refusal problem view from (Return serial attempt result) =
    return_refusal problem result (judged (slice_get view.own serial) from attempt)
root_hear_refusal problem view from _ = None

-- the first fault of an event at the registry, which does no work of its own
abbrev pub registry_refusal : Problem → View → Event → Option ActFault
registry_refusal problem view (Deliver packet) =
    if is_misdirected view packet then Some faults.OtherSite
    else root_hear_refusal problem view packet.from packet.body
registry_refusal problem view (Redo serial) = redo_refusal view serial
registry_refusal problem view Again = None
registry_refusal problem view _ = Some faults.OtherSite

-- the view is the registry's
abbrev pub IsRegistryView : View → Type 0
IsRegistryView view = view.site.node ≡ 0

-- The registry has a step of the event.
pub record RegistryActs (problem : Problem) (view : View) (event : Event) : Type 0 where
  pub reply : Reply
  pub out : List Packet
  pub new : View
  pub step : RegistryStep problem view event reply out new
