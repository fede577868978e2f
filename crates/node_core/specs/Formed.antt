-- What is true of the view of each site, so that every packet that it puts out has a spelling.
use Rattle.std.specs.Prelude.{◌≡◌, ℕ, suc, ◌<◌, ◌≤◌, ◌^◌, Bool, true, false, not, ◌&&◌, List, length, slice_index, ◌==◌}
use Rattle.std.specs.List.{AllByRecursion, list_all}
use Rattle.cover_problem.specs.Prefix.{is_prefix}
use Rattle.cover_problem.specs.Problem.{IsProblem, Problem}
use Rattle.node_core.specs.NodeStep.{NodeStep}
use Rattle.node_core.specs.Refusal.{IsFit}
use Rattle.node_core.specs.SiteView.{View}
use Rattle.node_core.specs.declared.event.Event.{Event}
use Rattle.node_core.specs.declared.reply.Reply.{Reply}
use Rattle.packet_wire.specs.WellFormed.{is_counted, is_result, is_serial, is_site, is_well_formed}
use Rattle.packet_wire.specs.declared.packet.Packet.{Packet}
use Rattle.spawn_frame.specs.Tables.{HasParents, IsAscending}
use Rattle.spawn_frame.specs.Units.{Entry, GuestEntry, Table}
use Rattle.spawn_frame.specs.declared.site.Site.{Site}
use Rattle.spawn_frame.specs.declared.site.TheConstants.{LAST_NODE}
use Rattle.spawn_frame.specs.declared.status.Status.{Status}
use Rattle.spawn_frame.specs.declared.status.Status.TheVariants.{Aborted, Done, Dropped, Finished, Here, Out, Ready, Settled, Split}

-- each of the packets has a spelling
abbrev pub AllFormed : List Packet → Type 0
AllFormed out = AllByRecursion (λ p. is_well_formed p ≡ true) out

-- a site of another node than this one
abbrev pub is_another : Site → Site → Bool
is_another site other = is_site other && not (site.node == other.node)

-- a site that may be given a child of this one: the registry takes none
abbrev pub is_thief : Site → Site → Bool
is_thief site thief = is_another site thief && not (thief.node == 0)

-- a status that an own child may have: packets can tell its thief, or its result
abbrev pub is_child_status : Site → Status → Bool
is_child_status site Ready = true
is_child_status site Here = true
is_child_status site Split = true
is_child_status site (Out thief) = is_thief site thief
is_child_status site (Done result) = is_result result
is_child_status site Aborted = true
is_child_status site _ = false

-- a status that a guest may have: packets can tell its result
abbrev pub is_guest_status : Status → Bool
is_guest_status Ready = true
is_guest_status Here = true
is_guest_status Split = true
is_guest_status (Finished result) = is_result result
is_guest_status (Settled result) = is_result result
is_guest_status Dropped = true
is_guest_status _ = false

-- A unit that packets can tell: its prefix is one, and its attempt has four bytes.
pub record IsTold (problem : Problem) (entry : Entry) : Type 0 where
  pub prefix : is_prefix problem entry.prefix ≡ true
  pub attempt : is_counted entry.attempt ≡ true

-- An own child that packets can tell.
pub record IsFormedChild (problem : Problem) (site : Site) (child : Entry) : Type 0 where
  pub told : IsTold problem child
  pub status : is_child_status site child.status ≡ true

-- A guest that packets can tell: it is a child of a site of another node.
pub record IsFormedGuest (problem : Problem) (site : Site) (guest : GuestEntry) : Type 0 where
  pub owner : is_another site guest.name.site ≡ true
  pub serial : is_serial guest.name.serial ≡ true
  pub told : IsTold problem guest.entry
  pub status : is_guest_status guest.entry.status ≡ true

-- What is true of the units of each site: no serial has more than four bytes, parents are made before their children, guests
-- stand in order, and packets can tell each unit.
pub record IsFormedTable (problem : Problem) (table : Table) : Type 0 where
  pub site : is_site table.site ≡ true
  pub small : table.limit < 2 ^ 32
  pub names : length table.own ≤ table.limit
  pub parents : HasParents table
  pub ascending : IsAscending table.guests
  pub own : AllByRecursion (IsFormedChild problem table.site) table.own
  pub guests : AllByRecursion (IsFormedGuest problem table.site) table.guests

-- One incarnation is known of the registry, which has but the first, and one of each node.
pub record IsKnown (nodes : ℕ) (known : List ℕ) : Type 0 where
  pub each : length known ≡ suc nodes
  pub registry : slice_index known 0 ≡ 1
  pub counted : list_all is_counted known ≡ true

-- What is true of the view of each site of the problem: there are 1 to the most nodes, of which the site is one unless it is the
-- registry, and packets can tell all that it knows.
pub record IsFormed (problem : Problem) (view : View) : Type 0 where
  pub lawful : IsProblem problem
  pub some : 1 ≤ view.nodes
  pub most : view.nodes ≤ LAST_NODE
  pub within : view.site.node ≤ view.nodes
  pub known : IsKnown view.nodes view.known
  pub units : IsFormedTable problem view.table
  pub open units use {parents, ascending}

-- What is true of the view of each node.
pub record IsFormedNode (problem : Problem) (view : View) : Type 0 where
  pub formed : IsFormed problem view
  pub node : 1 ≤ view.site.node

-- A node of which this is true has a step of an event that is fit.
pub record FormedStep (problem : Problem) (old : View) (event : Event) (reply : Reply) (out : List Packet) (new : View) : Type 0 where
  pub before : IsFormedNode problem old
  pub fit : IsFit problem event
  pub step : NodeStep problem old event reply out new

-- A site that a node may be: one of at most as many nodes as there may be, in an incarnation that packets can tell, as each name that it may give.
pub record MayBegin (site : Site) (nodes limit : ℕ) : Type 0 where
  pub most : nodes ≤ LAST_NODE
  pub first : 1 ≤ site.node
  pub last : site.node ≤ nodes
  pub counted : 1 ≤ site.incarnation
  pub four_bytes : site.incarnation < 2 ^ 32
  pub small : limit < 2 ^ 32
