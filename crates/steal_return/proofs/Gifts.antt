-- What holds of a site stays, child by child, where several are given or admitted.
use Rattle.std.proofs.Common.{◌≡◌, ℕ, Bool, true, false, cond, List, [], ◌∷◌, Option, Some, None, is_some, slice_get, refl, sym, subst, true≢false}
use Rattle.std.specs.List.{AllByRecursion}
use Rattle.spawn_frame.specs.Gifts.{admit_each, admit_one, gift_guest, is_there, name_of}
use Rattle.spawn_frame.specs.Units.{Entry, GuestEntry, change_at, guest_in, insert_guest, with_status}
use Rattle.spawn_frame.specs.declared.gift.Gift.{Gift}
use Rattle.spawn_frame.specs.declared.site.Site.{Site}
use Rattle.spawn_frame.specs.declared.status.Status.TheVariants.{Out, Ready}
use Rattle.spawn_frame.specs.declared.unit.Unit.{Unit as WorkUnit}
use Rattle.steal_return.specs.Ledger.{Ledger, ledger_own}
use Rattle.steal_return.specs.Steals.{GivesEach}

-- what stays where one ready child is given stays where each of several is
pub gives_keep : (P : Ledger → Type 0) (thief : Site)
    → ((l : Ledger) (serial : ℕ) (entry : Entry) → slice_get l.own serial ≡ Some entry → entry.status ≡ Ready → P l → P (ledger_own l (change_at (with_status (Out thief)) l.own serial)))
    → (parent : Option WorkUnit) (gifts : List Gift) (old new : Ledger) → GivesEach parent old thief gifts new → P old → P new
gives_keep P thief one parent [] old new h p = subst P (sym h) p
gives_keep P thief one parent (gift ∷ gifts) old new h p =
    gives_keep P thief one parent gifts h.0 new h.3 (subst P (sym h.1.after) (one old gift.serial h.1.entry h.1.is h.1.ready p))

pub none_there : {A : Type 0} (o : Option A) → is_some o ≡ false → o ≡ None
none_there None h = refl
none_there (Some x) h = absurd (true≢false h)

admits_one : (P : List GuestEntry → Type 0) (Q : Gift → Type 0) (from : Site)
    → ((gift : Gift) (guests : List GuestEntry) → Q gift → guest_in guests (name_of from gift) gift.attempt ≡ None → P guests → P (insert_guest (gift_guest from gift) guests))
    → (gift : Gift) (guests : List GuestEntry) → Q gift → P guests → P (admit_one from gift guests)
admits_one P Q from one gift guests q p = by (is_there from guests gift) refl
  where
    by : (b : Bool) → is_there from guests gift ≡ b → P (cond b guests (insert_guest (gift_guest from gift) guests))
    by true t = p
    by false f = one gift guests q (none_there (guest_in guests (name_of from gift) gift.attempt) f) p

-- what stays where one new guest is admitted stays where each of several is that is not there
pub admits_keep : (P : List GuestEntry → Type 0) (Q : Gift → Type 0) (from : Site)
    → ((gift : Gift) (guests : List GuestEntry) → Q gift → guest_in guests (name_of from gift) gift.attempt ≡ None → P guests → P (insert_guest (gift_guest from gift) guests))
    → (gifts : List Gift) (guests : List GuestEntry) → AllByRecursion Q gifts → P guests → P (admit_each from gifts guests)
admits_keep P Q from one [] guests q p = p
admits_keep P Q from one (gift ∷ gifts) guests q p = admits_one P Q from one gift (admit_each from gifts guests) q.0 (admits_keep P Q from one gifts guests q.1 p)

-- whatever the children are
pub any_gift : (gifts : List Gift) → AllByRecursion (λ g. Unit {0}) gifts
any_gift [] = tt
any_gift (gift ∷ gifts) = (tt, any_gift gifts)
