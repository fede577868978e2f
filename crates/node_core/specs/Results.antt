-- Searches and frames that come to a result.
use Rattle.std.specs.Prelude.{◌≡◌, ℕ, ◌≤◌, Bool, length, List, [], ◌∷◌, ◌++◌, Option, Some}
use Rattle.brancher.specs.Finding.{Finding}
use Rattle.cover_problem.specs.Branching.{children}
use Rattle.cover_problem.specs.Problem.{Problem}
use Rattle.cover_problem.specs.Search.{Barren, Covers, Outcome, Spent, outcome}
use Rattle.node_core.specs.Outgoing.{IsReady, ReadyPacket, loaded}
use Rattle.node_core.specs.SiteView.{View, abort_packets, unit_gets, unit_in, with_ledger, with_table}
use Rattle.packet_wire.specs.declared.packet.Body.TheVariants.{Return}
use Rattle.packet_wire.specs.declared.packet.Packet.{Packet}
use Rattle.spawn_frame.specs.Aborts.{Reached}
use Rattle.spawn_frame.specs.Splits.{split_into, with_result}
use Rattle.spawn_frame.specs.Units.{Entry}
use Rattle.spawn_frame.specs.declared.child_result.ChildResult.{ChildResult}
use Rattle.spawn_frame.specs.declared.child_result.ChildResult.TheVariants.{Cover, Empty}
use Rattle.spawn_frame.specs.declared.site.Site.{Site}
use Rattle.spawn_frame.specs.declared.status.Status.TheVariants.{Here}
use Rattle.spawn_frame.specs.declared.unit.Job.{Job}
use Rattle.spawn_frame.specs.declared.unit.Unit.{Unit as WorkUnit}
use Rattle.spawn_frame.specs.declared.unit.Unit.TheVariants.{Guest, Own}
use Rattle.steal_return.specs.Finishing.{FinishesFrame}
use Rattle.steal_return.specs.Ledger.{Ledger}

-- The finding holds the outcome of its prefix and fuel, of which there is some.
pub record IsRight (problem : Problem) (finding : Finding) : Type 0 where
  pub fuel : 1 ≤ finding.fuel
  pub outcome : finding.outcome ≡ outcome problem finding.prefix finding.fuel

-- a guest's result goes to its owner
abbrev pub return_packets : Site → WorkUnit → ChildResult → List Packet
return_packets from (Own serial) result = []
return_packets from (Guest name attempt) result = record { from = from; to = name.site; body = Return name.serial attempt result } ∷ []

-- the unit split into the children of its prefix
abbrev pub split_up : Problem → View → WorkUnit → List ℕ → View
split_up problem old unit prefix = with_table old (split_into old.table unit (children problem prefix))

-- A unit has its result, which goes to its owner if it is a guest.
abbrev pub EndStep : View → WorkUnit → ChildResult → List Packet → View → Type 0
EndStep old unit result out new = (new ≡ unit_gets old unit (with_result unit result)) × (out ≡ return_packets old.site unit result)

-- A unit is split, and the site may name its children.
abbrev pub SplitStep : Problem → View → WorkUnit → List ℕ → View → Type 0
SplitStep problem old unit prefix new = (new ≡ split_up problem old unit prefix) × (length new.own ≤ old.limit)

-- what a search of a unit leaves: its result, or the unit split where the fuel was spent
abbrev pub Leaves : Problem → View → WorkUnit → List ℕ → Outcome → List Packet → View → Type 0
Leaves problem old unit prefix (Covers options) out new =
    (new ≡ unit_gets old unit (with_result unit (Cover options))) × (out ≡ return_packets old.site unit (Cover options))
Leaves problem old unit prefix Barren out new = (new ≡ unit_gets old unit (with_result unit Empty)) × (out ≡ return_packets old.site unit Empty)
Leaves problem old unit prefix Spent out new = (new ≡ split_up problem old unit prefix) × (length new.own ≤ old.limit) × (out ≡ [])

-- A worker has searched a job: the unit is here at that attempt, with the prefix of the finding, which is right.
pub record PostStep (problem : Problem) (old : View) (job : Job) (finding : Finding) (out : List Packet) (new : View) : Type 0 where
  pub entry : Entry
  pub is : unit_in old job.unit ≡ Some entry
  pub here : entry.status ≡ Here
  pub attempt : entry.attempt ≡ job.attempt
  pub prefix : entry.prefix ≡ finding.prefix
  pub right : IsRight problem finding
  pub leaves : Leaves problem old job.unit finding.prefix finding.outcome out new

-- A settled frame is finished, and the thieves below are told.
pub record FinishStep (old : View) (unit : WorkUnit) (out : List Packet) (new : View) : Type 0 where
  pub outs : List Reached
  pub ledger : Ledger
  pub finishes : FinishesFrame old.ledger unit outs ledger
  pub open finishes use {entry, is, split, result, settled, own, aborts}
  pub after : new ≡ with_ledger old ledger
  pub sends : out ≡ abort_packets old.site outs ++ return_packets old.site unit result

-- What is ready is what a frame that comes to this will return.
pub record IsReadyReturn (from : Site) (unit : WorkUnit) (came : Option ChildResult) (both : Bool) (load : Option ReadyPacket) : Type 0 where
  pub returns : (result : ChildResult) → came ≡ Some result → return_packets from unit result ≡ loaded load
  pub ready : IsReady both load
