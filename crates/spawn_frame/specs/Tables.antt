-- What the calls of a table ask for and answer.
use Rattle.std.specs.Prelude.{◌≡◌, ℕ, ◌<◌, ◌≤◌, IsSome, Bool, true, false, ◌&&◌, if◌then◌else◌, List, [], ◌∷◌, ◌++◌, filter, map, Option, Some, None, slice_get, ◌==◌, bytes_eq as same_numbers}
use Rattle.std.specs.List.{AllByRecursion, count_by}
use Rattle.spawn_frame.specs.Aborts.{is_open}
use Rattle.spawn_frame.specs.Frames.{frame, frame_result, is_unit}
use Rattle.spawn_frame.specs.Inlets.{heard_by}
use Rattle.spawn_frame.specs.Names.{guest_before}
use Rattle.spawn_frame.specs.Picks.{is_split}
use Rattle.spawn_frame.specs.Units.{Entry, GuestEntry, Table, unit_of}
use Rattle.spawn_frame.specs.declared.child_result.ChildResult.TheVariants.{Cover}
use Rattle.spawn_frame.specs.declared.guest_view.GuestView.{GuestView}
use Rattle.spawn_frame.specs.declared.heard.Heard.{Heard}
use Rattle.spawn_frame.specs.declared.heard.Heard.TheVariants.{Open}
use Rattle.spawn_frame.specs.declared.site.ChildName.{ChildName}
use Rattle.spawn_frame.specs.declared.site.Site.{Site}
use Rattle.spawn_frame.specs.declared.status.Status.{Status}
use Rattle.spawn_frame.specs.declared.status.Status.TheVariants.{Aborted, Done, Dropped, Finished, Here, Out, Ready, Settled, Split}
use Rattle.spawn_frame.specs.declared.unit.Unit.{Unit as WorkUnit}
use Rattle.spawn_frame.specs.declared.unit.Unit.TheVariants.{Guest, Own}

-- a site without units
abbrev pub empty_table : Site → ℕ → Table
empty_table site limit = record { site = site; limit = limit; own = []; guests = [] }

-- the root of the search: the empty prefix, at its first attempt
abbrev pub root_entry : Entry
root_entry = record { parent = None; prefix = []; attempt = 1; status = Ready }

-- the registry's table when the search begins: the root alone, which takes its one name
abbrev pub root_table : Table
root_table = record { site = record { node = 0; incarnation = 1 }; limit = 1; own = root_entry ∷ []; guests = [] }

-- a worker of this site has it
abbrev pub is_here : Status → Bool
is_here Here = true
is_here _ = false

-- it was given to a thief
abbrev pub is_out : Status → Bool
is_out (Out thief) = true
is_out _ = false

-- how many own children are out
abbrev pub outs_of : List Entry → ℕ
outs_of own = count_by (λ c. is_out c.status) own

-- a status that goes with the kind of unit: a guest is never out, done or aborted, an own child never finished, settled or dropped
abbrev pub suits : WorkUnit → Status → Bool
suits (Own serial) (Finished result) = false
suits (Own serial) (Settled result) = false
suits (Own serial) Dropped = false
suits (Own serial) _ = true
suits (Guest name attempt) (Out thief) = false
suits (Guest name attempt) (Done result) = false
suits (Guest name attempt) Aborted = false
suits (Guest name attempt) _ = true

-- A unit as it may be: at an attempt from 1, with a status of its kind.
pub record IsLawful (unit : WorkUnit) (entry : Entry) : Type 0 where
  pub attempt : 1 ≤ entry.attempt
  pub status : suits unit entry.status ≡ true

-- each unit of the table is so
abbrev pub AllLawful : Table → Type 0
AllLawful table = (unit : WorkUnit) (entry : Entry) → unit_of table unit ≡ Some entry → IsLawful unit entry

-- its result may come: it is worked on, here or by a thief, or it is a frame
abbrev pub may_end : Status → Bool
may_end Here = true
may_end Split = true
may_end (Out thief) = true
may_end _ = false

-- the unit is there, and its status passes
abbrev pub has_status : (Status → Bool) → Option Entry → Bool
has_status test None = false
has_status test (Some entry) = test entry.status

-- the unit is there and here, at this attempt and with this prefix
abbrev pub is_at_work : ℕ → List ℕ → Option Entry → Bool
is_at_work attempt prefix None = false
is_at_work attempt prefix (Some entry) = is_here entry.status && (entry.attempt == attempt && same_numbers entry.prefix prefix)

-- A unit that is there and here, at this attempt and with this prefix.
pub record IsAtWork (attempt : ℕ) (prefix : List ℕ) (unit : Option Entry) : Type 0 where
  pub entry : Entry
  pub is : unit ≡ Some entry
  pub here : entry.status ≡ Here
  pub attempt_is : entry.attempt ≡ attempt
  pub prefix_is : entry.prefix ≡ prefix

-- A unit that is there, at this attempt and with this status.
pub record IsSeen (unit : Option Entry) (attempt : ℕ) (status : Status) : Type 0 where
  pub entry : Entry
  pub is : unit ≡ Some entry
  pub attempt_is : entry.attempt ≡ attempt
  pub status_is : entry.status ≡ status

-- the prefix of a unit
abbrev pub prefix_in : Option Entry → List ℕ
prefix_in None = []
prefix_in (Some entry) = entry.prefix

-- the status of a unit, where it is there
abbrev pub status_in : Option Entry → Option Status
status_in None = None
status_in (Some entry) = Some entry.status

-- the attempt of a unit
abbrev pub attempt_in : Option Entry → ℕ
attempt_in None = 0
attempt_in (Some entry) = entry.attempt

-- the parent of a unit
abbrev pub parent_in : Option Entry → Option WorkUnit
parent_in None = None
parent_in (Some entry) = entry.parent

-- The children of a unit are the own children of serials from the first up to the end.
pub record AreChildren (unit : WorkUnit) (own : List Entry) (first end : ℕ) : Type 0 where
  pub each : (k : ℕ) → first ≤ k → k < end → parent_in (slice_get own k) ≡ Some unit
  pub only : (k : ℕ) → parent_in (slice_get own k) ≡ Some unit → (first ≤ k) × (k < end)

-- the prefix followed by each of the options
abbrev pub longer_prefixes : List ℕ → List ℕ → List (List ℕ)
longer_prefixes prefix options = map (λ o. prefix ++ o ∷ []) options

-- a child of another site when it is admitted
abbrev pub new_guest : ChildName → ℕ → List ℕ → GuestEntry
new_guest name attempt prefix = record { name = name; entry = record { parent = None; prefix = prefix; attempt = attempt; status = Ready } }

-- a guest as it is told: it has no parent here
abbrev pub seen_guest : GuestView → GuestEntry
seen_guest view = record {
  name = view.name;
  entry = record { parent = None; prefix = view.prefix.now; attempt = view.attempt; status = view.status.now };
}

-- the guests that are open, in order
abbrev pub open_guests : List GuestEntry → List GuestEntry
open_guests guests = filter (λ g. is_open g.entry.status) guests

-- by what a guest is known
abbrev pub guest_key : GuestEntry → ChildName × ℕ
guest_key g = (g.name, g.entry.attempt)

-- the guest comes after that one, where one is given
abbrev pub is_after : Option (ChildName × ℕ) → GuestEntry → Bool
is_after None g = true
is_after (Some key) g = guest_before key.0 key.1 g.name g.entry.attempt

-- each guest comes before all that stand behind it
abbrev pub IsAscending : List GuestEntry → Type 0
IsAscending [] = Unit {0}
IsAscending (g ∷ gs) = AllByRecursion (λ h. guest_before g.name g.entry.attempt h.name h.entry.attempt ≡ true) gs × IsAscending gs

-- A parent is there, and an own one was made before its child.
pub record HasParents (table : Table) : Type 0 where
  pub lower : (k j : ℕ) (c : Entry) → slice_get table.own k ≡ Some c → c.parent ≡ Some (Own j) → j < k
  pub there : (k : ℕ) (c : Entry) (unit : WorkUnit) → slice_get table.own k ≡ Some c → c.parent ≡ Some unit → IsSome (unit_of table unit)

-- what a frame of the table says, if the unit is one
abbrev pub heard_at : Table → Option WorkUnit → Heard
heard_at table None = Open
heard_at table (Some unit) =
    if has_status is_split (unit_of table unit) then heard_by (frame_result (frame unit table.own)) else Open

-- what the frame says that the unit is a child of
abbrev pub parent_heard : Table → WorkUnit → Heard
parent_heard table unit = heard_at table (parent_in (unit_of table unit))

-- The frame's result is the cover of this child.
pub record GivesResult (unit : WorkUnit) (own : List Entry) (serial : ℕ) : Type 0 where
  pub entry : Entry
  pub options : List ℕ
  pub is : slice_get own serial ≡ Some entry
  pub child : is_unit entry.parent unit ≡ true
  pub done : entry.status ≡ Done (Cover options)
  pub result : frame_result (frame unit own) ≡ Some (Cover options)

-- a parent of the same site was made before the child of this serial
abbrev pub IsMadeBefore : WorkUnit → ℕ → Type 0
IsMadeBefore (Own parent) serial = parent < serial
IsMadeBefore (Guest name attempt) serial = Unit {0}
