-- Which of its ready children a site gives to a thief that asks for work.
use Rattle.std.specs.Prelude.{◌≡◌, ℕ, suc, ◌+◌, ◌/◌, ◌≤◌, min, Bool, true, false, ◌&&◌, if◌then◌else◌, nat_lt, List, [], ◌∷◌, ◌++◌, length, take, Option, Some, None, slice_get}
use Rattle.std.specs.List.{AllByRecursion}
use Rattle.spawn_frame.specs.Frames.{is_unit}
use Rattle.spawn_frame.specs.Gifts.{rise_from, sibling_gifts}
use Rattle.spawn_frame.specs.Picks.{is_ready}
use Rattle.spawn_frame.specs.Tables.{parent_in}
use Rattle.spawn_frame.specs.Units.{Entry}
use Rattle.spawn_frame.specs.declared.gift.Gift.{Gift}
use Rattle.spawn_frame.specs.declared.siblings.TheConstants.{MOST_SIBLINGS}
use Rattle.spawn_frame.specs.declared.site.Site.{Site}
use Rattle.spawn_frame.specs.declared.status.Status.TheVariants.{Ready}
use Rattle.spawn_frame.specs.declared.unit.Unit.{Unit as WorkUnit}
use Rattle.steal_return.specs.Ledger.{Ledger}
use Rattle.steal_return.specs.Steals.{GivesChildren, GivesNothing, first_ready, is_older}
use Rattle.steal_return.specs.declared.given.Given.{Given}
use Rattle.steal_return.specs.declared.given.Given.TheVariants.{One, Several}

-- a ready child of this parent
abbrev pub is_ready_child : WorkUnit → Entry → Bool
is_ready_child parent c = is_unit c.parent parent && is_ready c.status

-- the ready children of a parent, by serial, of the own children from serial k on
abbrev pub ready_from : WorkUnit → ℕ → List Entry → List ℕ
ready_from parent k [] = []
ready_from parent k (c ∷ cs) = (if is_ready_child parent c then k ∷ [] else []) ++ ready_from parent (suc k) cs

-- how many a thief gets of so many: half of them, rounded up, and at most eight
abbrev pub share_of : ℕ → ℕ
share_of n = min MOST_SIBLINGS ((n + 1) / 2)

-- those that it gets of these
abbrev pub share : List ℕ → List ℕ
share serials = take (share_of (length serials)) serials

-- those that it gets with this child: ready children of its parent, the first ones by serial; the root goes by itself
abbrev pub share_with : Option WorkUnit → ℕ → List Entry → List ℕ
share_with None serial own = serial ∷ []
share_with (Some parent) serial own = share (ready_from parent 0 own)

-- the same, where there is a child
abbrev pub share_at : Option ℕ → List Entry → List ℕ
share_at None own = []
share_at (Some serial) own = share_with (parent_in (slice_get own serial)) serial own

-- the children that a thief gets: those with the ready one of least serial
abbrev pub chosen : List Entry → List ℕ
chosen own = share_at (first_ready own) own

-- A ready child of this parent.
abbrev pub MayGo : Option WorkUnit → List Entry → ℕ → Type 0
MayGo parent own serial = (entry : Entry) × (slice_get own serial ≡ Some entry) × (entry.status ≡ Ready) × (entry.parent ≡ parent)

-- Children that may be given together.
pub record MayGoTogether (own : List Entry) (serials : List ℕ) : Type 0 where
  pub parent : Option WorkUnit
  pub some : 1 ≤ length serials
  pub most : length serials ≤ MOST_SIBLINGS
  pub alone : parent ≡ None → length serials ≡ 1
  pub rising : rise_from None serials ≡ true
  pub each : AllByRecursion (MayGo parent own) serials

-- each child that is given, with its whole prefix
abbrev pub gifts_of : Given → List Gift
gifts_of (One gift) = gift ∷ []
gifts_of (Several prefix siblings) = sibling_gifts prefix siblings

-- one child goes by itself, and several go together
abbrev pub is_spelled : Given → Bool
is_spelled (One gift) = true
is_spelled (Several prefix siblings) = nat_lt 1 (length siblings)

-- The children that a thief may be given, where no later incarnation of its node is known.
pub record MayShare (ledger : Ledger) (thief : Site) (serials : List ℕ) : Type 0 where
  pub not_older : is_older ledger.known thief ≡ false
  pub chosen_so : serials ≡ chosen ledger.own
  pub together : MayGoTogether ledger.own serials

-- what a thief gets that asks for work: nothing, or children
abbrev pub TellsSteal : Ledger → Site → Option Given → Ledger → Type 0
TellsSteal old thief None new = GivesNothing old thief × (new ≡ old)
TellsSteal old thief (Some given) new = GivesChildren old thief (gifts_of given) new
