-- What a node refuses: the first fault that an event meets, by tests in the order of the rules.
use Rattle.std.specs.Prelude.{◌≡◌, ℕ, ◌+◌, ◌≤◌, Bool, true, false, not, ◌&&◌, ◌||◌, if◌then◌else◌, List, length, Option, Some, None, is_none, slice_get, nat_eq, nat_le, nat_lt, ◌==◌, ⊤}
use Rattle.std.specs.Cmp.Lexicographic.{pointwise}
use Rattle.std.specs.List.{list_all, list_any}
use Rattle.brancher.specs.Finding.{Finding}
use Rattle.cover_problem.specs.Branching.{children}
use Rattle.cover_problem.specs.Problem.{Problem}
use Rattle.cover_problem.specs.Search.{Outcome, Spent}
use Rattle.node_core.specs.Arrivals.{is_lawful}
use Rattle.node_core.specs.NodeStep.{NodeStep}
use Rattle.node_core.specs.Results.{IsRight}
use Rattle.node_core.specs.SiteView.{View, unit_in}
use Rattle.node_core.specs.declared.act_fault.ActFault.{ActFault}
use Rattle.node_core.specs.declared.act_fault.ActFault.TheVariants as faults
use Rattle.node_core.specs.declared.event.Event.{Event}
use Rattle.node_core.specs.declared.event.Event.TheVariants.{Again, Ask, Deliver, Finish, Greet, Post, Redo, Take}
use Rattle.node_core.specs.declared.reply.Reply.{Reply}
use Rattle.packet_wire.specs.Gifts.{gifts_in}
use Rattle.packet_wire.specs.WellFormed.{is_well_formed}
use Rattle.packet_wire.specs.declared.packet.Body.{Body}
use Rattle.packet_wire.specs.declared.packet.Body.TheVariants.{Give, GiveMany, Members}
use Rattle.packet_wire.specs.declared.packet.Packet.{Packet}
use Rattle.spawn_frame.specs.Frames.{frame, frame_result}
use Rattle.spawn_frame.specs.Gifts.{is_there}
use Rattle.spawn_frame.specs.Names.{same_site}
use Rattle.spawn_frame.specs.Picks.{is_split}
use Rattle.spawn_frame.specs.Tables.{HasParents, IsAscending, attempt_in, has_status, is_here, is_out, prefix_in}
use Rattle.spawn_frame.specs.Units.{Entry, last_attempt}
use Rattle.spawn_frame.specs.declared.gift.Gift.{Gift}
use Rattle.spawn_frame.specs.declared.site.Site.{Site}
use Rattle.spawn_frame.specs.declared.unit.Job.{Job}
use Rattle.spawn_frame.specs.declared.unit.Unit.{Unit as WorkUnit}
use Rattle.steal_return.specs.Members.{is_spent_at, now_known}
use Rattle.steal_return.specs.Steals.{is_older}

-- ---- what a site does of itself

-- the job is the site's, and the finding is of its prefix
abbrev pub is_awaited : View → Job → Finding → Bool
is_awaited view job finding =
    has_status is_here (unit_in view job.unit)
    && (attempt_in (unit_in view job.unit) == job.attempt
    && pointwise nat_eq (prefix_in (unit_in view job.unit)) finding.prefix)

-- the fuel did not suffice
abbrev pub is_spent : Outcome → Bool
is_spent Spent = true
is_spent _ = false

-- the site may not name so many children more as the prefix has
abbrev pub lacks_names : Problem → View → List ℕ → Bool
lacks_names problem view prefix =
    nat_lt view.limit (length view.own + length (children problem prefix))

-- a unit is split where each child gets a name
abbrev pub split_refusal : Problem → View → List ℕ → Option ActFault
split_refusal problem view prefix =
    if lacks_names problem view prefix then Some faults.NamesSpent else None

-- a finding is of a job that is awaited, and where the fuel did not suffice each child gets a name
abbrev pub post_refusal : Problem → View → Job → Finding → Option ActFault
post_refusal problem view job finding =
    if not (is_awaited view job finding) then Some faults.StaleJob
    else if is_spent finding.outcome && lacks_names problem view finding.prefix
    then Some faults.NamesSpent
    else None

-- a unit that is finished is split, and its frame is settled
abbrev pub finish_refusal : View → WorkUnit → Option ActFault
finish_refusal view unit =
    if not (has_status is_split (unit_in view unit)) then Some faults.NotOpen
    else if is_none (frame_result (frame unit view.own)) then Some faults.NotSettled
    else None

-- there is no such node
abbrev pub is_beyond : View → ℕ → Bool
is_beyond view node = nat_lt view.nodes node

-- a victim is another node, or the registry
abbrev pub ask_refusal : View → ℕ → Option ActFault
ask_refusal view victim =
    if victim == view.site.node || is_beyond view victim then Some faults.OtherSite else None

-- a child that is redone is out, and not at its last attempt
abbrev pub redo_refusal : View → ℕ → Option ActFault
redo_refusal view serial =
    if not (has_status is_out (slice_get view.own serial)) then Some faults.NotOut
    else if nat_le last_attempt (attempt_in (slice_get view.own serial)) then Some faults.NamesSpent
    else None

-- ---- packets

-- the packet is for another site, or from a node that there is not
abbrev pub is_misdirected : View → Packet → Bool
is_misdirected view packet = not (same_site packet.to view.site) || is_beyond view packet.from.node

-- an own child would be redone, and stands at its last attempt
abbrev pub any_spent : (Site → Bool) → List Entry → Bool
any_spent lost own = list_any (λ c. is_spent_at lost (Some c)) own

-- Members is learnt where each child can be redone that has to be
abbrev pub members_refusal : View → List ℕ → Option ActFault
members_refusal view incarnations =
    if any_spent (is_older (now_known view.site.node view.known incarnations)) view.own
    then Some faults.NamesSpent
    else None

-- a Give is ignored: a later incarnation of its sender is known, or all of the guests are there already
abbrev pub is_ignored : View → Site → List Gift → Bool
is_ignored view from gifts = is_older view.known from || list_all (is_there from view.guests) gifts

-- what is given of a guest that isn't there is a prefix, unless the packet is ignored
abbrev pub give_refusal : Problem → View → Site → List Gift → Option ActFault
give_refusal problem view from gifts =
    if is_ignored view from gifts || list_all (is_lawful problem from view.guests) gifts then None else Some faults.BadPrefix

-- of the bodies that arrive, Members and Give may be refused
abbrev pub hear_refusal : Problem → View → Site → Body → Option ActFault
hear_refusal problem view from (Members incarnations) = members_refusal view incarnations
hear_refusal problem view from (Give serial attempt prefix) =
    give_refusal problem view from (gifts_in (Give serial attempt prefix))
hear_refusal problem view from (GiveMany prefix siblings) =
    give_refusal problem view from (gifts_in (GiveMany prefix siblings))
hear_refusal problem view from _ = None

-- ---- the first fault

-- the first fault of an event at a node that takes part
abbrev pub event_refusal : Problem → View → Event → Option ActFault
event_refusal problem view Take = None
event_refusal problem view (Post job finding) = post_refusal problem view job finding
event_refusal problem view (Finish unit) = finish_refusal view unit
event_refusal problem view (Ask victim) = ask_refusal view victim
event_refusal problem view (Redo serial) = redo_refusal view serial
event_refusal problem view (Deliver packet) = hear_refusal problem view packet.from packet.body
event_refusal problem view Again = None
event_refusal problem view Greet = None

-- The first fault of an event at a node: a packet may be misdirected, and else a node that is over
-- refuses every event.
abbrev pub node_refusal : Problem → View → Event → Option ActFault
node_refusal problem view (Deliver packet) =
    if is_misdirected view packet then Some faults.OtherSite
    else if view.over then Some faults.Over
    else event_refusal problem view (Deliver packet)
node_refusal problem view event =
    if view.over then Some faults.Over else event_refusal problem view event

-- ---- when there is a step

-- what is true of each event that a site is told of: the packet has a spelling, the finding is right
abbrev pub IsFit : Problem → Event → Type 0
IsFit problem (Deliver packet) = is_well_formed packet ≡ true
IsFit problem (Post job finding) = IsRight problem finding
IsFit problem _ = ⊤

-- What is true of the view of each node: parents are made before their children, guests stand in
-- order, and it isn't the registry.
pub record IsNodeView (view : View) : Type 0 where
  pub parents : HasParents view.table
  pub ascending : IsAscending view.guests
  pub node : 1 ≤ view.site.node

-- A node has a step of the event.
pub record NodeActs (problem : Problem) (view : View) (event : Event) : Type 0 where
  pub reply : Reply
  pub out : List Packet
  pub new : View
  pub step : NodeStep problem view event reply out new
