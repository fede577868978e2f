-- The units of work of one site: its own children by serial, and its guests in order.
use Rattle.std.specs.Prelude.{ℕ, zero, suc, Bool, ◌&&◌, if◌then◌else◌, List, [], ◌∷◌, Option, Some, None, slice_get, ◌==◌}
use Rattle.spawn_frame.specs.Names.{guest_before, same_name}
use Rattle.spawn_frame.specs.declared.site.ChildName.{ChildName}
use Rattle.spawn_frame.specs.declared.site.TheConstants.{LAST_ATTEMPT}
use Rattle.spawn_frame.specs.declared.site.Site.{Site}
use Rattle.spawn_frame.specs.declared.status.Status.{Status}
use Rattle.spawn_frame.specs.declared.status.Status.TheVariants.{Ready}
use Rattle.spawn_frame.specs.declared.unit.Unit.{Unit as WorkUnit}
use Rattle.spawn_frame.specs.declared.unit.Unit.TheVariants.{Guest, Own}

-- a unit of work as its site sees it. A guest and the root have no parent here
pub record Entry : Type 0 where
  pub parent : Option WorkUnit
  pub prefix : List ℕ
  pub attempt : ℕ
  pub status : Status

-- a guest, by the name of the child that it is
pub record GuestEntry : Type 0 where
  pub name : ChildName
  pub entry : Entry

-- a site's units of work
pub record Table : Type 0 where
  pub site : Site
  pub limit : ℕ  -- how many children the site may name
  pub own : List Entry  -- its own children, by serial
  pub guests : List GuestEntry  -- ascending by name and attempt

-- the guest of this name at this attempt
abbrev pub is_guest : ChildName → ℕ → GuestEntry → Bool
is_guest name attempt g = same_name g.name name && g.entry.attempt == attempt

-- the guest of this name and attempt, where it is there
abbrev pub guest_in : List GuestEntry → ChildName → ℕ → Option Entry
guest_in [] name attempt = None
guest_in (g ∷ gs) name attempt = if is_guest name attempt g then Some g.entry else guest_in gs name attempt

-- what a table has of a unit
abbrev pub unit_of : Table → WorkUnit → Option Entry
unit_of table (Own serial) = slice_get table.own serial
unit_of table (Guest name attempt) = guest_in table.guests name attempt

-- the same unit, with another status
abbrev pub with_status : Status → Entry → Entry
with_status status entry = record entry { status = status }

-- the greatest number that a packet can tell
abbrev pub last_attempt : ℕ
last_attempt = LAST_ATTEMPT

-- ready again, at the next attempt
abbrev pub redone : Entry → Entry
redone entry = record entry { attempt = suc entry.attempt; status = Ready }

-- the list with its element at k changed
abbrev pub change_at : (Entry → Entry) → List Entry → ℕ → List Entry
change_at f [] k = []
change_at f (c ∷ cs) zero = f c ∷ cs
change_at f (c ∷ cs) (suc k) = c ∷ change_at f cs k

-- the list with this guest changed
abbrev pub change_guest : (Entry → Entry) → List GuestEntry → ChildName → ℕ → List GuestEntry
change_guest f [] name attempt = []
change_guest f (g ∷ gs) name attempt =
    if is_guest name attempt g then record g { entry = f g.entry } ∷ gs else g ∷ change_guest f gs name attempt

-- the list with a new guest at its place in the order
abbrev pub insert_guest : GuestEntry → List GuestEntry → List GuestEntry
insert_guest new [] = new ∷ []
insert_guest new (g ∷ gs) =
    if guest_before new.name new.entry.attempt g.name g.entry.attempt then new ∷ g ∷ gs else g ∷ insert_guest new gs

-- the table with other own children
abbrev pub table_own : Table → List Entry → Table
table_own table own = record table { own = own }

-- the table with other guests
abbrev pub table_guests : Table → List GuestEntry → Table
table_guests table guests = record table { guests = guests }

-- the table in which the unit has this status
abbrev pub table_gets : Table → WorkUnit → Status → Table
table_gets table (Own serial) status = table_own table (change_at (with_status status) table.own serial)
table_gets table (Guest name attempt) status = table_guests table (change_guest (with_status status) table.guests name attempt)
