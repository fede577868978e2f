-- What a site refuses: events of which there is no step.
use Rattle.std.specs.Prelude.{◌≡◌, ℕ, Some, slice_get, List, [], ◌∷◌}
use Rattle.brancher.specs.Finding.{Finding}
use Rattle.cover_problem.specs.Problem.{Problem}
use Rattle.node_core.specs.NodeStep.{NodeStep}
use Rattle.node_core.specs.SiteView.{View, unit_in}
use Rattle.node_core.specs.declared.event.Event.{Event}
use Rattle.node_core.specs.declared.reply.Reply.{Reply}
use Rattle.node_core.specs.declared.reply.Reply.TheVariants.{Moved}
use Rattle.packet_wire.specs.declared.packet.Body.TheVariants.{Refuse}
use Rattle.packet_wire.specs.declared.packet.Packet.{Packet}
use Rattle.root_registry.specs.RegistryStep.{RegistryStep}
use Rattle.spawn_frame.specs.Units.{Entry, last_attempt}
use Rattle.spawn_frame.specs.declared.cause.Cause.{Cause}
use Rattle.spawn_frame.specs.declared.site.Site.{Site}
use Rattle.spawn_frame.specs.declared.status.Status.TheVariants.{Here, Out}
use Rattle.spawn_frame.specs.declared.unit.Job.{Job}

-- a node has no step of this event, with whatever reply
abbrev pub NodeRefuses : Problem → View → Event → Type 0
NodeRefuses problem view event = (reply : Reply) (out : List Packet) (new : View) → NodeStep problem view event reply out new → ⊥

-- the registry has none
abbrev pub RegistryRefuses : Problem → View → Event → Type 0
RegistryRefuses problem view event = (reply : Reply) (out : List Packet) (new : View) → RegistryStep problem view event reply out new → ⊥

-- the job is the site's, and the finding is of its prefix
pub record IsAwaited (view : View) (job : Job) (finding : Finding) : Type 0 where
  pub entry : Entry
  pub is : unit_in view job.unit ≡ Some entry
  pub here : entry.status ≡ Here
  pub attempt : entry.attempt ≡ job.attempt
  pub prefix : entry.prefix ≡ finding.prefix

-- the own child of this serial is out
pub record IsOut (view : View) (serial : ℕ) : Type 0 where
  pub entry : Entry
  pub thief : Site
  pub is : slice_get view.own serial ≡ Some entry
  pub out_there : entry.status ≡ Out thief

-- the own child of this serial is out to the thief, at its last attempt
pub record IsLastOut (view : View) (serial : ℕ) (thief : Site) : Type 0 where
  pub entry : Entry
  pub is : slice_get view.own serial ≡ Some entry
  pub out_there : entry.status ≡ Out thief
  pub last : entry.attempt ≡ last_attempt

-- a result is refused with this cause, and nothing changes
abbrev pub Refused : View → Site → ℕ → ℕ → Cause → Reply → List Packet → View → Type 0
Refused old from serial attempt cause reply out new =
    (reply ≡ Moved) × (new ≡ old) × (out ≡ record { from = old.site; to = from; body = Refuse serial attempt cause } ∷ [])
