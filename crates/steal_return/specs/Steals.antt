-- Children that are given to thieves, and redone (steals and redo of Cilk-NOW).
use Rattle.std.specs.Prelude.{◌≡◌, ◌≢◌, ◌⊎◌, ℕ, ◌<◌, ◌≤◌, Bool, true, false, List, [], ◌∷◌, length, Option, Some, None, slice_get, slice_index, nat_lt}
use Rattle.std.specs.List.{position_from}
use Rattle.spawn_frame.specs.Gifts.{rise_from, serials_of}
use Rattle.spawn_frame.specs.Picks.{is_ready}
use Rattle.spawn_frame.specs.Tables.{attempt_in, has_status, is_out, prefix_in}
use Rattle.spawn_frame.specs.Units.{Entry, change_at, last_attempt, redone, with_status}
use Rattle.spawn_frame.specs.declared.gift.Gift.{Gift}
use Rattle.spawn_frame.specs.declared.siblings.TheConstants.{MOST_SIBLINGS}
use Rattle.spawn_frame.specs.declared.site.Site.{Site}
use Rattle.spawn_frame.specs.declared.status.Status.TheVariants.{Out, Ready}
use Rattle.spawn_frame.specs.declared.unit.Unit.{Unit as WorkUnit}
use Rattle.steal_return.specs.Ledger.{Ledger, ledger_own}

-- a later incarnation of the site's node is known
abbrev pub is_older : List ℕ → Site → Bool
is_older known site = nat_lt site.incarnation (slice_index known site.node)

-- A thief gets nothing: it is of an earlier incarnation than is known, or no own child is ready.
abbrev pub GivesNothing : Ledger → Site → Type 0
GivesNothing old thief = (is_older old.known thief ≡ true) ⊎ ((k : ℕ) (entry : Entry) → slice_get old.own k ≡ Some entry → entry.status ≢ Ready)

-- the ready own child of least serial
abbrev pub first_ready : List Entry → Option ℕ
first_ready own = position_from (λ c. is_ready c.status) 0 own

-- A child that a thief may be given: the ready one of least serial, where no later incarnation of the thief's node is known.
pub record MayGive (ledger : Ledger) (thief : Site) (serial : ℕ) : Type 0 where
  pub not_older : is_older ledger.known thief ≡ false
  pub least : first_ready ledger.own ≡ Some serial
  pub ready : has_status is_ready (slice_get ledger.own serial) ≡ true

-- A thief gets a ready own child, at its attempt and with its prefix.
pub record GivesChild (old : Ledger) (thief : Site) (gift : Gift) (new : Ledger) : Type 0 where
  pub entry : Entry
  pub not_older : is_older old.known thief ≡ false
  pub is : slice_get old.own gift.serial ≡ Some entry
  pub ready : entry.status ≡ Ready
  pub attempt : gift.attempt ≡ entry.attempt
  pub prefix : gift.prefix ≡ entry.prefix
  pub after : new ≡ ledger_own old (change_at (with_status (Out thief)) old.own gift.serial)

-- A thief gets ready own children of one parent, one after the other.
abbrev pub GivesEach : Option WorkUnit → Ledger → Site → List Gift → Ledger → Type 0
GivesEach parent old thief [] new = new ≡ old
GivesEach parent old thief (gift ∷ gifts) new =
    (mid : Ledger) × (child : GivesChild old thief gift mid) × (child.entry.parent ≡ parent) × GivesEach parent mid thief gifts new

-- A thief gets ready own children of one parent, one to eight of them by serial, and the root by itself. Any may be given.
pub record GivesChildren (old : Ledger) (thief : Site) (gifts : List Gift) (new : Ledger) : Type 0 where
  pub parent : Option WorkUnit
  pub some : 1 ≤ length gifts
  pub most : length gifts ≤ MOST_SIBLINGS
  pub alone : parent ≡ None → length gifts ≡ 1
  pub rising : rise_from None (serials_of gifts) ≡ true
  pub each : GivesEach parent old thief gifts new

-- A child that is out is ready again at the next attempt.
pub record RedoesChild (old : Ledger) (serial : ℕ) (new : Ledger) : Type 0 where
  pub entry : Entry
  pub thief : Site
  pub is : slice_get old.own serial ≡ Some entry
  pub out_there : entry.status ≡ Out thief
  pub not_last : entry.attempt < last_attempt
  pub after : new ≡ ledger_own old (change_at redone old.own serial)

-- an own child as a thief is told of it
abbrev pub gift_at : List Entry → ℕ → Gift
gift_at own serial = record { serial = serial; attempt = attempt_in (slice_get own serial); prefix = prefix_in (slice_get own serial) }

-- a child is out, and stands at its last attempt
abbrev pub IsLastOut : Option Entry → Type 0
IsLastOut child = (has_status is_out child ≡ true) × (last_attempt ≤ attempt_in child)
