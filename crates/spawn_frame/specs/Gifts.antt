-- Children that are given to a thief: each by its serial, its attempt and its prefix.
use Rattle.std.specs.Prelude.{ℕ, Bool, true, false, ◌&&◌, if◌then◌else◌, nat_lt, is_some, List, [], ◌∷◌, ◌++◌, map, Option, Some, None}
use Rattle.spawn_frame.specs.Tables.{new_guest}
use Rattle.spawn_frame.specs.Units.{GuestEntry, guest_in, insert_guest}
use Rattle.spawn_frame.specs.declared.gift.Gift.{Gift}
use Rattle.spawn_frame.specs.declared.siblings.Sibling.{Sibling}
use Rattle.spawn_frame.specs.declared.site.ChildName.{ChildName}
use Rattle.spawn_frame.specs.declared.site.Site.{Site}

-- a child of a parent with this prefix
abbrev pub sibling_gift : List ℕ → Sibling → Gift
sibling_gift prefix s = record { serial = s.serial; attempt = s.attempt; prefix = prefix ++ s.option ∷ [] }

-- children of a parent with this prefix
abbrev pub sibling_gifts : List ℕ → List Sibling → List Gift
sibling_gifts prefix siblings = map (sibling_gift prefix) siblings

-- the serials of the children
abbrev pub serials_of : List Gift → List ℕ
serials_of gifts = map (λ g. g.serial) gifts

-- a serial above the last one, if there was one
abbrev pub is_next : Option ℕ → ℕ → Bool
is_next None serial = true
is_next (Some last) serial = nat_lt last serial

-- serials that rise, above the last one if there was one
abbrev pub rise_from : Option ℕ → List ℕ → Bool
rise_from last [] = true
rise_from last (n ∷ ns) = is_next last n && rise_from (Some n) ns

-- the name of a child of this site
abbrev pub name_of : Site → Gift → ChildName
name_of from gift = record { site = from; serial = gift.serial }

-- the child is a guest already, in whatever status
abbrev pub is_there : Site → List GuestEntry → Gift → Bool
is_there from guests gift = is_some (guest_in guests (name_of from gift) gift.attempt)

-- the child as a ready guest
abbrev pub gift_guest : Site → Gift → GuestEntry
gift_guest from gift = new_guest (name_of from gift) gift.attempt gift.prefix

-- the guests with the child as a new one, unless it is there already
abbrev pub admit_one : Site → Gift → List GuestEntry → List GuestEntry
admit_one from gift guests = if is_there from guests gift then guests else insert_guest (gift_guest from gift) guests

-- the same of each of these children, the last one first
abbrev pub admit_each : Site → List Gift → List GuestEntry → List GuestEntry
admit_each from [] guests = guests
admit_each from (gift ∷ gifts) guests = admit_one from gift (admit_each from gifts guests)
