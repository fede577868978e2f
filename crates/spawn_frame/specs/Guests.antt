-- The guests of a site by their places, and which of them are open.
use Rattle.std.specs.Prelude.{◌≡◌, ℕ, zero, suc, true, if◌then◌else◌, List, [], ◌∷◌, filter, map, nat_lt, ◌==◌, Option, Some, None, option_map, slice_get}
use Rattle.spawn_frame.specs.Aborts.{is_open}
use Rattle.spawn_frame.specs.Gifts.{is_there, name_of}
use Rattle.spawn_frame.specs.Names.{guest_before}
use Rattle.spawn_frame.specs.Works.{fresh_guest, guest_entry, guest_work}
use Rattle.spawn_frame.specs.declared.gift.Gift.{Gift}
use Rattle.spawn_frame.specs.declared.guest.Guest.{Guest}
use Rattle.spawn_frame.specs.declared.site.Site.{Site}
use Rattle.spawn_frame.specs.declared.status.Status.{Status}
use Rattle.spawn_frame.specs.declared.unit.Unit.{Unit as WorkUnit}
use Rattle.spawn_frame.specs.declared.unit.Unit.TheVariants as units
use Rattle.spawn_frame.specs.declared.work.Work.{Work}

-- the open guests, in order
abbrev pub open_of : List Guest → List Guest
open_of guests = filter (λ g. is_open g.work.status) guests

-- the places at which the open guests stand
abbrev pub open_places : List Guest → List ℕ
open_places [] = []
open_places (g ∷ gs) = if is_open g.work.status then 0 ∷ map suc (open_places gs) else map suc (open_places gs)

-- the places with one more, which moves those from it on by one
abbrev pub places_with : ℕ → List ℕ → List ℕ
places_with place [] = place ∷ []
places_with place (p ∷ ps) = if nat_lt p place then p ∷ places_with place ps else place ∷ map suc (p ∷ ps)

-- the places without this one
abbrev pub places_without : ℕ → List ℕ → List ℕ
places_without place [] = []
places_without place (p ∷ ps) = if p == place then ps else p ∷ places_without place ps

-- the list with the work of its guest at a place changed
abbrev pub change_place : (Work → Work) → List Guest → ℕ → List Guest
change_place f [] k = []
change_place f (g ∷ gs) zero = record g { work = f g.work } ∷ gs
change_place f (g ∷ gs) (suc k) = g ∷ change_place f gs k

-- the list with a new guest before the first that stands behind it
abbrev pub put_guest : Guest → List Guest → List Guest
put_guest new [] = new ∷ []
put_guest new (g ∷ gs) = if guest_before new.name new.work.attempt g.name g.work.attempt then new ∷ g ∷ gs else g ∷ put_guest new gs

-- the list with a child that is given, unless it is there already
abbrev pub put_gift : Site → Gift → List Guest → List Guest
put_gift from gift gs =
    if is_there from (map guest_entry gs) gift then gs else put_guest (fresh_guest (name_of from gift) gift.attempt gift.prefix) gs

-- the same of each of these children, the last one first
abbrev pub put_gifts : Site → List Gift → List Guest → List Guest
put_gifts from [] gs = gs
put_gifts from (gift ∷ gifts) gs = put_gift from gift (put_gifts from gifts gs)

-- the work of the guest at a place
abbrev pub work_at : List Guest → ℕ → Option Work
work_at guests place = option_map (λ g. g.work) (slice_get guests place)

-- the work of a unit that is a guest
abbrev pub guest_of : WorkUnit → List Guest → Option Work
guest_of (units.Own serial) guests = None
guest_of (units.Guest name attempt) guests = guest_work guests name attempt

-- a guest gets an open status only where it is open
abbrev pub StaysOpen : Status → Option Work → Type 0
StaysOpen status None = Unit {0}
StaysOpen status (Some w) = is_open status ≡ true → is_open w.status ≡ true
