-- How a table keeps its units, and what is true of it.
use Rattle.std.specs.Prelude.{◌≡◌, ℕ, zero, suc, ◌+◌, ◌<◌, ◌≤◌, ◌^◌, Bool, true, false, not, ◌&&◌, ◌||◌, if◌then◌else◌, List, [], ◌∷◌, map, length, Option, Some, None, slice_get}
use Rattle.std.specs.List.{AllByRecursion, list_any}
use Rattle.spawn_frame.specs.Aborts.{is_open}
use Rattle.spawn_frame.specs.Frames.{is_unit}
use Rattle.spawn_frame.specs.Inlets.{FirstFound, frame_hearing, heard_of, hearing_of, is_done, new_hearing}
use Rattle.spawn_frame.specs.Picks.{either_unit, is_ready, is_split, pick, ready_unit, ripe_unit}
use Rattle.spawn_frame.specs.Prefixes.{AreGrown, last_of, link_of, origin_of}
use Rattle.spawn_frame.specs.Tables.{AreChildren, HasParents, IsAscending, is_here, is_out, suits}
use Rattle.spawn_frame.specs.Units.{Entry, GuestEntry, Table, is_guest, unit_of}
use Rattle.spawn_frame.specs.declared.child.Child.{Child}
use Rattle.spawn_frame.specs.declared.child_result.ChildResult.{ChildResult}
use Rattle.spawn_frame.specs.declared.guest.Guest.{Guest}
use Rattle.spawn_frame.specs.declared.heard.Heard.{Heard}
use Rattle.spawn_frame.specs.declared.heard.Heard.TheVariants.{Open, Settled}
use Rattle.spawn_frame.specs.declared.site.ChildName.{ChildName}
use Rattle.spawn_frame.specs.declared.site.Site.{Site}
use Rattle.spawn_frame.specs.declared.status.Status.{Status}
use Rattle.spawn_frame.specs.declared.status.Status.TheVariants.{Here, Out, Ready, Split}
use Rattle.spawn_frame.specs.declared.unit.Unit.{Unit as WorkUnit}
use Rattle.spawn_frame.specs.declared.unit.Unit.TheVariants as units
use Rattle.spawn_frame.specs.declared.wanted.Wanted.{Wanted}
use Rattle.spawn_frame.specs.declared.wanted.Wanted.TheVariants as wants
use Rattle.spawn_frame.specs.declared.work.Work.{Work}

-- a unit with this parent, as its site sees it
abbrev pub entry_of : Option WorkUnit → Work → Entry
entry_of parent w = record { parent = parent; prefix = w.path.options; attempt = w.attempt; status = w.status }

-- an own child as its site sees it
abbrev pub child_entry : Child → Entry
child_entry c = entry_of c.parent c.work

-- a guest as its site sees it
abbrev pub guest_entry : Guest → GuestEntry
guest_entry g = record { name = g.name; entry = entry_of None g.work }

-- the table with these units
abbrev pub table_of : Site → ℕ → List Child → List Guest → Table
table_of site limit own guests = record { site = site; limit = limit; own = map child_entry own; guests = map guest_entry guests }

-- it was never split
abbrev pub is_whole : Status → Bool
is_whole Ready = true
is_whole Here = true
is_whole (Out thief) = true
is_whole _ = false

-- whether some own child is a child of the unit
abbrev pub has_child : WorkUnit → List Entry → Bool
has_child unit own = list_any (λ c. is_unit c.parent unit) own

-- What is true of each unit: its attempt is at least 1, its status is of its kind, it has no children before it is split, the
-- inlet of one that is split is in step with them, and their serials are kept.
pub record IsUnit (unit : WorkUnit) (w : Work) (own : List Entry) : Type 0 where
  pub attempt : 1 ≤ w.attempt
  pub status : suits unit w.status ≡ true
  pub whole : is_whole w.status ≡ true → has_child unit own ≡ false
  pub split : w.status ≡ Split → w.inlet ≡ Some (frame_hearing unit own)
  pub children : AreChildren unit own w.children.first w.children.end

-- What is true of every table: no more names than the limit, guests in order, parents before their children, prefixes that grow from
-- parent to child, and what is true of each unit.
pub record IsTable (table : Table) (own : List Child) (guests : List Guest) : Type 0 where
  pub small : table.limit < 2 ^ 32
  pub names : length own ≤ table.limit
  pub ascending : IsAscending table.guests
  pub parents : HasParents table
  pub grown : AreGrown (map link_of own) (map origin_of guests)
  pub own_units : (k : ℕ) (c : Child) → slice_get own k ≡ Some c → IsUnit (units.Own k) c.work table.own
  pub guest_units : AllByRecursion (λ g. IsUnit (units.Guest g.name g.work.attempt) g.work table.own) guests

-- work that nobody has taken up
abbrev pub new_work : List ℕ → ℕ → Work
new_work path attempt = record { path = record { options = path }; attempt = attempt; status = Ready; inlet = None; children = record { first = 0; end = 0 } }

-- what an inlet says, where there is one
abbrev pub heard_work : Option FirstFound → Heard
heard_work None = Open
heard_work (Some hearing) = heard_of hearing

-- whether a frame is settled
abbrev pub is_settled : Heard → Bool
is_settled Open = false
is_settled Settled = true

-- whether work is what is looked for: ready, a frame that is settled, here, or out
abbrev pub is_wanted : Wanted → Work → Bool
is_wanted wants.Ready w = is_ready w.status
is_wanted wants.Ripe w = is_split w.status && is_settled (heard_work w.inlet)
is_wanted wants.Here w = is_here w.status
is_wanted wants.Out w = is_out w.status

-- the own child of greatest serial that is wanted, of those from serial k on
abbrev pub last_wanted : Wanted → ℕ → List Child → Option WorkUnit
last_wanted wanted k [] = None
last_wanted wanted k (c ∷ cs) = either_unit (last_wanted wanted (suc k) cs) (if is_wanted wanted c.work then Some (units.Own k) else None)

-- the first guest that is wanted
abbrev pub first_wanted : Wanted → List Guest → Option WorkUnit
first_wanted wanted [] = None
first_wanted wanted (g ∷ gs) = if is_wanted wanted g.work then Some (units.Guest g.name g.work.attempt) else first_wanted wanted gs

-- a frame has children that its inlet has not heard
abbrev pub HearsChildren : Work → Type 0
HearsChildren w = w.status ≡ Split → (h : FirstFound) × (w.inlet ≡ Some h) × (0 < h.left)

-- the same of a unit, where it is there
abbrev pub HearsFrom : Option Work → Type 0
HearsFrom None = Unit {0}
HearsFrom (Some w) = HearsChildren w

-- what an inlet has heard once it hears a child
abbrev pub inlet_after : ℕ → ChildResult → Option FirstFound → Option FirstFound
inlet_after child result None = None
inlet_after child result (Some hearing) = Some (hearing_of hearing child result)

-- the work once it hears the result of a child, if it is a frame
abbrev pub with_heard : ℕ → ChildResult → Work → Work
with_heard child result w = record w { inlet = if is_split w.status then inlet_after child result w.inlet else w.inlet }

-- the work with another status
abbrev pub with_work_status : Status → Work → Work
with_work_status status w = record w { status = status }

-- the work ready again, at the next attempt
abbrev pub redone_work : Work → Work
redone_work w = record w { attempt = w.attempt + 1; status = Ready }

-- the work as a frame of so many children, of serials from the first on
abbrev pub split_work : ℕ → ℕ → Work → Work
split_work first count w = record w { status = Split; inlet = Some (new_hearing count); children = record { first = first; end = first + count } }

-- the list with the work of its child at k changed
abbrev pub change_child : (Work → Work) → List Child → ℕ → List Child
change_child f [] k = []
change_child f (c ∷ cs) zero = record c { work = f c.work } ∷ cs
change_child f (c ∷ cs) (suc k) = c ∷ change_child f cs k

-- the list with the work of this guest changed
abbrev pub change_work : (Work → Work) → List Guest → ChildName → ℕ → List Guest
change_work f [] name attempt = []
change_work f (g ∷ gs) name attempt =
    if is_guest name attempt (guest_entry g) then record g { work = f g.work } ∷ gs else g ∷ change_work f gs name attempt

-- the own children where the work of this unit is changed
abbrev pub own_after : WorkUnit → (Work → Work) → List Child → List Child
own_after (units.Own serial) f own = change_child f own serial
own_after (units.Guest name attempt) f own = own

-- the guests where the work of this unit is changed
abbrev pub guests_after : WorkUnit → (Work → Work) → List Guest → List Guest
guests_after (units.Own serial) f guests = guests
guests_after (units.Guest name attempt) f guests = change_work f guests name attempt

-- the work of a child
abbrev pub child_work : Option Child → Option Work
child_work None = None
child_work (Some c) = Some c.work

-- the work of the guest of this name and attempt
abbrev pub guest_work : List Guest → ChildName → ℕ → Option Work
guest_work [] name attempt = None
guest_work (g ∷ gs) name attempt = if is_guest name attempt (guest_entry g) then Some g.work else guest_work gs name attempt

-- the work of a unit
abbrev pub work_in : List Child → List Guest → WorkUnit → Option Work
work_in own guests (units.Own serial) = child_work (slice_get own serial)
work_in own guests (units.Guest name attempt) = guest_work guests name attempt

-- the own children where the work of the parent is changed, if there is one
abbrev pub own_told : Option WorkUnit → (Work → Work) → List Child → List Child
own_told None f own = own
own_told (Some unit) f own = own_after unit f own

-- the guests where the work of the parent is changed, if there is one
abbrev pub guests_told : Option WorkUnit → (Work → Work) → List Guest → List Guest
guests_told None f guests = guests
guests_told (Some unit) f guests = guests_after unit f guests

-- the work of the parent, if there is one
abbrev pub parent_work : Option WorkUnit → List Child → List Guest → Option Work
parent_work None own guests = None
parent_work (Some unit) own guests = work_in own guests unit

-- what a frame says, if there is one
abbrev pub frame_says : Option Work → Heard
frame_says None = Open
frame_says (Some w) = if is_split w.status then heard_work w.inlet else Open

-- what the status of a unit is that is looked for
abbrev pub wanted_status : Wanted → Status → Bool
wanted_status wants.Ready status = is_ready status
wanted_status wants.Ripe status = is_split status
wanted_status wants.Here status = is_here status
wanted_status wants.Out status = is_out status

-- the unit that is looked for
abbrev pub wanted_unit : Wanted → Table → Option WorkUnit
wanted_unit wants.Ready table = ready_unit table
wanted_unit wants.Ripe table = ripe_unit table
wanted_unit wants.Here table = pick (λ unit entry. is_here entry.status) table
wanted_unit wants.Out table = pick (λ unit entry. is_out entry.status) table

-- What a table keeps of a unit that is there.
pub record IsWork (table : Table) (unit : WorkUnit) (w : Work) : Type 0 where
  pub parent : Option WorkUnit
  pub is : unit_of table unit ≡ Some (entry_of parent w)
  pub in_step : IsUnit unit w table.own

-- the root of the search
abbrev pub root_child : Child
root_child = record { parent = None; option = 0; work = new_work [] 1 }

-- a child of a unit when it is made
abbrev pub fresh_child : WorkUnit → List ℕ → Child
fresh_child unit prefix = record { parent = Some unit; option = last_of prefix; work = new_work prefix 1 }

-- a guest when it is admitted
abbrev pub fresh_guest : ChildName → ℕ → List ℕ → Guest
fresh_guest name attempt prefix = record { name = name; prefix = prefix; work = new_work prefix attempt }

-- a status that makes no frame, nor a unit whole that was split
abbrev pub keeps_frame : Status → Status → Bool
keeps_frame new old = not (is_split new) && (not (is_whole new) || is_whole old)

-- a status of its kind that a unit may get with no frame hearing of it: an own child isn't done before or after, a guest is open
-- before
abbrev pub may_become : WorkUnit → Status → Status → Bool
may_become (units.Own serial) new old = suits (units.Own serial) new && (not (is_done new || is_done old) && keeps_frame new old)
may_become (units.Guest name attempt) new old = suits (units.Guest name attempt) new && (is_open old && keeps_frame new old)
