-- What a site learns of the others, and what it does again then (Cilk-NOW).
use Rattle.std.specs.Prelude.{◌≡◌, ◌≢◌, ◌⊎◌, ℕ, zero, suc, ◌<◌, max, Bool, true, false, ◌&&◌, if◌then◌else◌, length, List, [], ◌∷◌, filter, map, drop, Option, Some, None, slice_get, slice_index, nat_le, ◌==◌}
use Rattle.spawn_frame.specs.Aborts.{AbortsBelow, Reached, is_open, reached}
use Rattle.spawn_frame.specs.Tables.{has_status}
use Rattle.spawn_frame.specs.Units.{Entry, GuestEntry, change_guest, guest_in, last_attempt, redone, table_guests, table_own, with_status}
use Rattle.spawn_frame.specs.declared.site.Site.{Site}
use Rattle.spawn_frame.specs.declared.status.Status.{Status}
use Rattle.spawn_frame.specs.declared.status.Status.TheVariants.{Dropped, Out}
use Rattle.spawn_frame.specs.declared.unit.Unit.{Unit as WorkUnit}
use Rattle.spawn_frame.specs.declared.unit.Unit.TheVariants.{Guest, Own}
use Rattle.steal_return.specs.Ledger.{Ledger}
use Rattle.steal_return.specs.Steals.{is_older}
use Rattle.steal_return.specs.declared.news.News.{News}
use Rattle.steal_return.specs.declared.news.News.TheVariants as says

-- the greater incarnation of each node but the own one
abbrev pub learnt : ℕ → ℕ → List ℕ → List ℕ → List ℕ
learnt self node [] new = []
learnt self node (k ∷ ks) [] = k ∷ ks
learnt self node (k ∷ ks) (m ∷ ms) = (if node == self then k else max k m) ∷ learnt self (suc node) ks ms

-- an earlier incarnation of this node
abbrev pub is_earlier_incarnation : ℕ → List ℕ → Site → Bool
is_earlier_incarnation node known site = site.node == node && is_older known site

-- the list with the greater number at the node's place
abbrev pub raised : List ℕ → ℕ → ℕ → List ℕ
raised [] node incarnation = []
raised (k ∷ ks) zero incarnation = max k incarnation ∷ ks
raised (k ∷ ks) (suc node) incarnation = k ∷ raised ks node incarnation

-- redone where it is out to a lost site
abbrev pub redo_if : (Site → Bool) → Entry → Status → Entry
redo_if lost entry (Out thief) = if lost thief then redone entry else entry
redo_if lost entry _ = entry

-- each child that is out to a lost site is redone
abbrev pub redo_lost : (Site → Bool) → List Entry → List Entry
redo_lost lost own = map (λ c. redo_if lost c c.status) own

-- no child that is to be redone stands at its last attempt
abbrev pub IsRedoable : (Site → Bool) → List Entry → Type 0
IsRedoable lost own =
    (k : ℕ) (entry : Entry) (thief : Site)
    → slice_get own k ≡ Some entry → entry.status ≡ Out thief → lost thief ≡ true → entry.attempt < last_attempt

-- out to a lost site
abbrev pub is_out_to : (Site → Bool) → Status → Bool
is_out_to lost (Out thief) = lost thief
is_out_to lost _ = false

-- out to a lost site, and at the last attempt
abbrev pub is_spent_at : (Site → Bool) → Option Entry → Bool
is_spent_at lost None = false
is_spent_at lost (Some entry) = nat_le last_attempt entry.attempt && is_out_to lost entry.status

-- An own child would be redone, and stands at its last attempt.
pub record IsSpent (lost : Site → Bool) (own : List Entry) : Type 0 where
  pub serial : ℕ
  pub spent : is_spent_at lost (slice_get own serial) ≡ true

-- the guest, dropped or as it was
abbrev pub drop_if : Bool → GuestEntry → GuestEntry
drop_if true g = record g { entry = with_status Dropped g.entry }
drop_if false g = g

-- an open guest of a lost owner
abbrev pub is_lost : List ℕ → GuestEntry → Bool
is_lost known g = is_older known g.name.site && is_open g.entry.status

-- each open guest of a lost owner is dropped
abbrev pub drop_lost : List ℕ → List GuestEntry → List GuestEntry
drop_lost known guests = map (λ g. drop_if (is_lost known g) g) guests

-- the lost guests, in order
abbrev pub lost_units : List ℕ → List GuestEntry → List WorkUnit
lost_units known guests = map (λ g. Guest g.name g.entry.attempt) (filter (is_lost known) guests)

-- the guests once these units are dropped, one after another
abbrev pub dropped : List WorkUnit → List GuestEntry → List GuestEntry
dropped [] guests = guests
dropped (Guest name attempt ∷ units) guests = dropped units (change_guest (with_status Dropped) guests name attempt)
dropped (Own serial ∷ units) guests = dropped units guests

-- each of these guests is open when its turn comes
abbrev pub MayDrop : List WorkUnit → List GuestEntry → Type 0
MayDrop [] guests = Unit {0}
MayDrop (Guest name attempt ∷ units) guests =
    (has_status is_open (guest_in guests name attempt) ≡ true) × MayDrop units (change_guest (with_status Dropped) guests name attempt)
MayDrop (Own serial ∷ units) guests = MayDrop units guests

-- the unit is an open guest of a lost owner
abbrev pub is_lost_guest : List ℕ → List GuestEntry → WorkUnit → Bool
is_lost_guest known guests (Own serial) = false
is_lost_guest known guests (Guest name attempt) = is_older known name.site && has_status is_open (guest_in guests name attempt)

-- what a site of this node knows then: the registry has one incarnation alone
abbrev pub now_known : ℕ → List ℕ → List ℕ → List ℕ
now_known self known incarnations = slice_index known 0 ∷ learnt self 1 (drop 1 known) incarnations

-- what is known once this news is heard
abbrev pub known_after : News → List ℕ → List ℕ
known_after (says.Members self incarnations) known = now_known self known incarnations.now
known_after (says.Hello site) known = raised known site.node site.incarnation

-- what makes a difference: another incarnation is known, or a guest is dropped
abbrev pub Differs : Ledger → List ℕ → List WorkUnit → Type 0
Differs old known lost = (known ≢ old.known) ⊎ (0 < length lost)

-- No other incarnation is known, and no guest is dropped.
pub record IsAlike (old : Ledger) (known : List ℕ) (lost : List WorkUnit) : Type 0 where
  pub same : known ≡ old.known
  pub none_lost : lost ≡ []

-- Incarnations are learnt; then children out to earlier ones are redone, then guests of earlier ones dropped with all below (redo of Cilk-NOW).
pub record LearnsMembers (old : Ledger) (incarnations : List ℕ) (outs : List Reached) (new : Ledger) : Type 0 where
  pub known : List ℕ
  pub known_is : known ≡ now_known old.site.node old.known incarnations
  pub redoable : IsRedoable (is_older known) old.own
  pub own : List Entry
  pub aborts : AbortsBelow (is_lost_guest known old.guests) (redo_lost (is_older known) old.own) own
  pub after : new ≡ record old {
    table = table_guests (table_own old.table own) (drop_lost known old.guests);
    known = known;
  }
  pub reaches : outs ≡ reached 0 (redo_lost (is_older known) old.own) own

-- A node says in which incarnation it is: the later incarnation of it is kept, and each child that is out to an earlier one is redone.
pub record LearnsHello (old : Ledger) (from : Site) (new : Ledger) : Type 0 where
  pub known : List ℕ
  pub known_is : known ≡ raised old.known from.node from.incarnation
  pub redoable : IsRedoable (is_earlier_incarnation from.node known) old.own
  pub after : new ≡ record old {
    table = table_own old.table (redo_lost (is_earlier_incarnation from.node known) old.own);
    known = known;
  }

-- a child that would have to be redone for these incarnations stands at its last attempt
abbrev pub IsSpentForMembers : Ledger → List ℕ → Type 0
IsSpentForMembers old incarnations = IsSpent (is_older (now_known old.site.node old.known incarnations)) old.own

-- a child that would have to be redone for this incarnation is at its last attempt
abbrev pub IsSpentForHello : Ledger → Site → Type 0
IsSpentForHello old from = IsSpent (is_earlier_incarnation from.node (raised old.known from.node from.incarnation)) old.own
