-- Guests: children of other sites that come, settle or are wanted no more.
use Rattle.std.specs.Prelude.{◌≡◌, ◌⊎◌, ℕ, Bool, true, false, List, Some}
use Rattle.std.specs.Bool.{OnFalse, OnTrue}
use Rattle.std.specs.List.{list_all}
use Rattle.spawn_frame.specs.Aborts.{AbortsBelow, Reached, is_open, reached}
use Rattle.spawn_frame.specs.Gifts.{admit_each, is_there}
use Rattle.spawn_frame.specs.Names.{same_unit}
use Rattle.spawn_frame.specs.Picks.{is_finished}
use Rattle.spawn_frame.specs.Units.{Entry, guest_in}
use Rattle.spawn_frame.specs.declared.child_result.ChildResult.{ChildResult}
use Rattle.spawn_frame.specs.declared.gift.Gift.{Gift}
use Rattle.spawn_frame.specs.declared.site.ChildName.{ChildName}
use Rattle.spawn_frame.specs.declared.site.Site.{Site}
use Rattle.spawn_frame.specs.declared.status.Status.TheVariants.{Dropped, Settled}
use Rattle.spawn_frame.specs.declared.unit.Unit.TheVariants.{Guest}
use Rattle.steal_return.specs.Finishing.{Appends}
use Rattle.steal_return.specs.Ledger.{Ledger, ledger_gets, ledger_guests, ledger_own}
use Rattle.steal_return.specs.Steals.{is_older}

-- Children that are given to this site become ready guests, those that aren't there yet.
pub record AdmitsGuests (old : Ledger) (from : Site) (gifts : List Gift) (new : Ledger) : Type 0 where
  pub not_older : is_older old.known from ≡ false
  pub some_new : list_all (is_there from old.guests) gifts ≡ false
  pub after : new ≡ ledger_guests old (admit_each from gifts old.guests)

-- the site is of an earlier incarnation than is known, or each of these guests is there already, in whatever status
abbrev pub NoneIsNew : Ledger → Site → List Gift → Type 0
NoneIsNew old from gifts = (is_older old.known from ≡ true) ⊎ (list_all (is_there from old.guests) gifts ≡ true)

-- A finished guest settles on the result that its owner accepted.
pub record SettlesGuest (old : Ledger) (name : ChildName) (attempt : ℕ) (result : ChildResult) (new : Ledger) : Type 0 where
  pub entry : Entry
  pub is : guest_in old.guests name attempt ≡ Some entry
  pub finished : is_finished entry.status ≡ true
  pub after : new ≡ ledger_gets old (Guest name attempt) (Settled result)

-- there is no such guest that is finished
abbrev pub IsNotFinished : Ledger → ChildName → ℕ → Type 0
IsNotFinished old name attempt = (entry : Entry) → guest_in old.guests name attempt ≡ Some entry → is_finished entry.status ≡ false

-- An open guest is wanted no more: it is dropped, and all open units below it are aborted.
pub record DropsGuest (old : Ledger) (name : ChildName) (attempt : ℕ) (outs : List Reached) (new : Ledger) : Type 0 where
  pub entry : Entry
  pub is : guest_in old.guests name attempt ≡ Some entry
  pub open_still : is_open entry.status ≡ true
  pub own : List Entry
  pub aborts : AbortsBelow (same_unit (Guest name attempt)) old.own own
  pub after : new ≡ ledger_own (ledger_gets old (Guest name attempt) Dropped) own
  pub reaches : outs ≡ reached 0 old.own own

-- there is no such guest that is open
abbrev pub IsNotOpen : Ledger → ChildName → ℕ → Type 0
IsNotOpen old name attempt = (entry : Entry) → guest_in old.guests name attempt ≡ Some entry → is_open entry.status ≡ false

-- the child of this site and serial
abbrev pub child_of : Site → ℕ → ChildName
child_of site serial = record { site = site; serial = serial }

-- whether any of the children that are given to this site becomes a guest
abbrev pub TellsGive : Ledger → Site → List Gift → Bool → Ledger → Type 0
TellsGive old from gifts true new = AdmitsGuests old from gifts new
TellsGive old from gifts false new = NoneIsNew old from gifts × (new ≡ old)

-- whether a guest settles on the result that its owner accepted
abbrev pub TellsAccept : Ledger → ChildName → ℕ → ChildResult → Bool → Ledger → Type 0
TellsAccept old name attempt result true new = SettlesGuest old name attempt result new
TellsAccept old name attempt result false new = IsNotFinished old name attempt × (new ≡ old)

-- if so, the guest is dropped, and what the aborts below it reach is appended to the list
abbrev pub DropsIf : Bool → Ledger → ChildName → ℕ → List Reached → List Reached → Ledger → Type 0
DropsIf moved old name attempt list more new = OnTrue moved (Appends list more (λ outs. DropsGuest old name attempt outs new))

-- unless so, no such guest is open, and ledger and list stay as they are
abbrev pub StaysUnless : Bool → Ledger → ChildName → ℕ → List Reached → List Reached → Ledger → Type 0
StaysUnless moved old name attempt list more new = OnFalse moved (IsNotOpen old name attempt × (new ≡ old) × (more ≡ list))
