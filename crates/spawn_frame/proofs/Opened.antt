-- The open guests and their places, after each change of the guests.
use Rattle.std.proofs.Common.{◌≡◌, ℕ, zero, suc, ◌+◌, ◌-◌, ◌<◌, ◌≤◌, ◌≢◌, Bool, true, false, cond, ◌&&◌, ◌==◌, nat_lt, List, [], ◌∷◌, ◌++◌, map, length, insert, remove, take, drop, get_or, slice_get, slice_set, position, option_map, Option, Some, None, refl, sym, ap, subst, ◌∙◌, arith}
use Rattle.std.proofs.lemmas.Bool.{and_parts, cond-true, cond-false, eqb-true, eqb-false, eq-eqb, both_ways, lt-ltb, false_from_ne_true, ltb-true, ltb-false, true≢false}
use Rattle.std.proofs.lemmas.List.{append-nil, drop_all, drop_at, get_or-map, get_or_default, length-append, length-drop, length-map, length-take, take_at, take_rest}
use Rattle.std.proofs.lemmas.List.Edits.{map_over_more}
use Rattle.std.proofs.lemmas.Option.{same_Some, none-some, slice_get-get_or, slice_get-map}
use Rattle.std.specs.List.{AllByRecursion}
use Rattle.spawn_frame.specs.Aborts.{is_open}
use Rattle.spawn_frame.specs.Guests.{change_place, guest_of, open_of, open_places, places_with, places_without, work_at, StaysOpen}
use Rattle.spawn_frame.specs.Picks.{is_ready, is_split}
use Rattle.spawn_frame.specs.Prefixes.{origin_of}
use Rattle.spawn_frame.specs.Tables.{has_status, is_here, is_out, open_guests, suits}
use Rattle.spawn_frame.specs.Units.{is_guest, unit_of}
use Rattle.spawn_frame.specs.Works.{change_work, first_wanted, guest_entry, heard_work, guest_work, is_settled, is_wanted, keeps_frame, may_become, table_of, work_in}
use Rattle.spawn_frame.specs.declared.child.Child.{Child}
use Rattle.spawn_frame.specs.declared.guest.Guest.{Guest}
use Rattle.spawn_frame.specs.declared.site.ChildName.{ChildName}
use Rattle.spawn_frame.specs.declared.site.Site.{Site}
use Rattle.spawn_frame.specs.declared.status.Status.{Status}
use Rattle.spawn_frame.specs.declared.status.Status.TheVariants.{Aborted, Done, Dropped, Finished, Here, Out, Ready, Settled, Split}
use Rattle.spawn_frame.specs.declared.unit.Unit.{Unit as WorkUnit}
use Rattle.spawn_frame.specs.declared.unit.Unit.TheVariants as units
use Rattle.spawn_frame.specs.declared.wanted.Wanted.{Wanted}
use Rattle.spawn_frame.specs.declared.wanted.Wanted.TheVariants as wants
use Rattle.spawn_frame.specs.declared.work.Work.{Work}
use Rattle.spawn_frame.proofs.Lookups.{guest_with}
use Rattle.spawn_frame.proofs.Places.{guest_get, guest_set, place_read}
use Rattle.spawn_frame.proofs.Grown.{each_guest}
use Rattle.spawn_frame.proofs.Statuses.{guest_with_status}

-- ---- the open guests stand at the open places

get_suc : (ps : List ℕ) (k : ℕ) → k < length ps → get_or (map suc ps) k 0 ≡ suc (get_or ps k 0)
get_suc ps k h = get_or-map suc ps k 0 0 h

pub open_length : (gs : List Guest) → length (open_places gs) ≡ length (open_of gs)
open_length [] = refl
open_length (g ∷ gs) = go (is_open g.work.status) (length-map (open_places gs) suc ∙ open_length gs)
  where
    go : (b : Bool) → length (map suc (open_places gs)) ≡ length (open_of gs)
        → length (cond b (0 ∷ map suc (open_places gs)) (map suc (open_places gs))) ≡ length (cond b (g ∷ open_of gs) (open_of gs))
    go true e = ap suc e
    go false e = e

-- a fact of each place among the open places, where it is a fact of 0 and of each place of the rest, one further
each_place : (P : ℕ → ℕ → Type 0) (b : Bool) (ps : List ℕ) → ((k : ℕ) → b ≡ true → k ≡ 0 → P k 0) → ((k j : ℕ) → j < length ps → k ≡ cond b (suc j) j → P k (suc (get_or ps j 0)))
    → (k : ℕ) → k < length (cond b (0 ∷ map suc ps) (map suc ps)) → P k (get_or (cond b (0 ∷ map suc ps) (map suc ps)) k 0)
each_place P true ps first later zero h = first 0 refl refl
each_place P true ps first later (suc k) h =
    let fits : k < length ps = omega (arith, h, length-map ps suc) in
    subst (P (suc k)) (sym (get_suc ps k fits)) (later (suc k) k fits refl)
each_place P false ps first later k h =
    let fits : k < length ps = omega (arith, h, length-map ps suc) in
    subst (P k) (sym (get_suc ps k fits)) (later k k fits refl)

pub open_within : (gs : List Guest) (k : ℕ) → k < length (open_places gs) → get_or (open_places gs) k 0 < length gs
open_within [] k h = absurd (omega (arith, h))
open_within (g ∷ gs) k h =
    each_place (λ j p. p < length (g ∷ gs)) (is_open g.work.status) (open_places gs) (λ j t e. omega arith) (λ j i l e. omega (arith, open_within gs i l)) k h

-- the guest at the k-th open place is the k-th open guest
pub open_at : (gs : List Guest) (k : ℕ) (d : Guest) → k < length (open_places gs) → get_or (open_of gs) k d ≡ get_or gs (get_or (open_places gs) k 0) d
open_at [] k d h = absurd (omega (arith, h))
open_at (g ∷ gs) k d h =
    each_place (λ j p. get_or (open_of (g ∷ gs)) j d ≡ get_or (g ∷ gs) p d) (is_open g.work.status) (open_places gs)
    (λ j t e. ap (λ n. get_or (open_of (g ∷ gs)) n d) e ∙ ap (λ l. get_or l 0 d) (cond-true (is_open g.work.status) (g ∷ open_of gs) (open_of gs) t))
    (λ j i l e. ap (λ n. get_or (open_of (g ∷ gs)) n d) e ∙ shift (is_open g.work.status) i ∙ open_at gs i d l) k h
  where
    shift : (b : Bool) (i : ℕ) → get_or (cond b (g ∷ open_of gs) (open_of gs)) (cond b (suc i) i) d ≡ get_or (open_of gs) i d
    shift true i = refl
    shift false i = refl

-- ---- the places rise

suc_rise : (ps : List ℕ) → ((i j d : ℕ) → i ≤ j → j < length ps → get_or ps i d ≤ get_or ps j d)
    → (i j d : ℕ) → i ≤ j → j < length (map suc ps) → get_or (map suc ps) i d ≤ get_or (map suc ps) j d
suc_rise ps h i j d le within =
    let last : j < length ps = omega (arith, within, length-map ps suc) in
    let first : i < length ps = omega (arith, last, le) in
    omega (arith, h i j d le last, get_or-map suc ps i d d first, get_or-map suc ps j d d last)

zero_rise : (ps : List ℕ) → ((i j d : ℕ) → i ≤ j → j < length ps → get_or ps i d ≤ get_or ps j d)
    → (i j d : ℕ) → i ≤ j → j < length (0 ∷ ps) → get_or (0 ∷ ps) i d ≤ get_or (0 ∷ ps) j d
zero_rise ps h zero j d le within = omega arith
zero_rise ps h (suc i) zero d le within = absurd (omega (arith, le))
zero_rise ps h (suc i) (suc j) d le within = h i j d (omega (arith, le)) (omega (arith, within))

pub open_rise : (gs : List Guest) (i j d : ℕ) → i ≤ j → j < length (open_places gs) → get_or (open_places gs) i d ≤ get_or (open_places gs) j d
open_rise [] i j d le within = absurd (omega (arith, within))
open_rise (g ∷ gs) i j d le within = go (is_open g.work.status) within (λ a b e l w. open_rise gs a b e l w)
  where
    go : (b : Bool) → j < length (cond b (0 ∷ map suc (open_places gs)) (map suc (open_places gs)))
        → ((a b e : ℕ) → a ≤ b → b < length (open_places gs) → get_or (open_places gs) a e ≤ get_or (open_places gs) b e)
        → get_or (cond b (0 ∷ map suc (open_places gs)) (map suc (open_places gs))) i d ≤ get_or (cond b (0 ∷ map suc (open_places gs)) (map suc (open_places gs))) j d
    go true w f = zero_rise (map suc (open_places gs)) (suc_rise (open_places gs) f) i j d le w
    go false w f = suc_rise (open_places gs) f i j d le w

-- ---- a guest that ends

suc_same : (p k : ℕ) → (suc p == suc k) ≡ (p == k)
suc_same p k = go (p == k) refl
  where
    go : (b : Bool) → (p == k) ≡ b → (suc p == suc k) ≡ b
    go true e = eq-eqb (suc p) (suc k) (ap suc (eqb-true p k e))
    go false e = false_from_ne_true (suc p == suc k) (λ t. eqb-false p k e (omega (arith, eqb-true (suc p) (suc k) t)))

suc_not_zero : (p : ℕ) → (suc p == 0) ≡ false
suc_not_zero p = false_from_ne_true (suc p == 0) (λ t. absurd (omega (arith, eqb-true (suc p) 0 t)))

without_zero : (ps : List ℕ) → places_without 0 (map suc ps) ≡ map suc ps
without_zero [] = refl
without_zero (p ∷ ps) =
    cond-false (suc p == 0) (map suc ps) (suc p ∷ places_without 0 (map suc ps)) (suc_not_zero p) ∙ ap (λ l. suc p ∷ l) (without_zero ps)

without_suc : (k : ℕ) (ps : List ℕ) → places_without (suc k) (map suc ps) ≡ map suc (places_without k ps)
without_suc k [] = refl
without_suc k (p ∷ ps) =
    ap (λ b. cond b (map suc ps) (suc p ∷ places_without (suc k) (map suc ps))) (suc_same p k) ∙ go (p == k) (without_suc k ps)
  where
    go : (b : Bool) → places_without (suc k) (map suc ps) ≡ map suc (places_without k ps)
        → cond b (map suc ps) (suc p ∷ places_without (suc k) (map suc ps)) ≡ map suc (cond b ps (p ∷ places_without k ps))
    go true e = refl
    go false e = ap (λ l. suc p ∷ l) e

zero_stays : (k : ℕ) (ps : List ℕ) → places_without (suc k) (0 ∷ ps) ≡ 0 ∷ places_without (suc k) ps
zero_stays k ps =
    cond-false (0 == suc k) ps (0 ∷ places_without (suc k) ps) (false_from_ne_true (0 == suc k) (λ t. absurd (omega (arith, eqb-true 0 (suc k) t))))

pub open_ended : (f : Work → Work) (gs : List Guest) (k : ℕ) → ((w : Work) → is_open (f w).status ≡ false) → open_places (change_place f gs k) ≡ places_without k (open_places gs)
open_ended f [] k h = refl
open_ended f (g ∷ gs) zero h =
    cond-false (is_open (f g.work).status) (0 ∷ map suc (open_places gs)) (map suc (open_places gs)) (h g.work) ∙ go (is_open g.work.status)
  where
    go : (b : Bool) → map suc (open_places gs) ≡ places_without 0 (cond b (0 ∷ map suc (open_places gs)) (map suc (open_places gs)))
    go true = refl
    go false = sym (without_zero (open_places gs))
open_ended f (g ∷ gs) (suc k) h = go (is_open g.work.status) (ap (map suc) (open_ended f gs k h) ∙ sym (without_suc k (open_places gs)))
  where
    go : (b : Bool) → map suc (open_places (change_place f gs k)) ≡ places_without (suc k) (map suc (open_places gs))
        → cond b (0 ∷ map suc (open_places (change_place f gs k))) (map suc (open_places (change_place f gs k)))
        ≡ places_without (suc k) (cond b (0 ∷ map suc (open_places gs)) (map suc (open_places gs)))
    go true e = ap (λ l. 0 ∷ l) e ∙ sym (zero_stays k (map suc (open_places gs)))
    go false e = e

-- ---- a guest that stays open, or ended

pub open_stays : (f : Work → Work) (gs : List Guest) (k : ℕ) → ((w : Work) → work_at gs k ≡ Some w → is_open (f w).status ≡ is_open w.status) → open_places (change_place f gs k) ≡ open_places gs
open_stays f [] k h = refl
open_stays f (g ∷ gs) zero h = ap (λ b. cond b (0 ∷ map suc (open_places gs)) (map suc (open_places gs))) (h g.work refl)
open_stays f (g ∷ gs) (suc k) h = ap (λ l. cond (is_open g.work.status) (0 ∷ map suc l) (map suc l)) (open_stays f gs k h)

-- the same where it gets an open status
pub stays_open : (status : Status) (f : Work → Work) → ((w : Work) → (f w).status ≡ status) → is_open status ≡ true → (gs now : List Guest) (k : ℕ) → gs ≡ now → StaysOpen status (work_at now k)
    → open_places (change_place f gs k) ≡ open_places gs
stays_open status f same t gs now k is stays = open_stays f gs k (λ w at. ap is_open (same w) ∙ t ∙ sym (subst (StaysOpen status) (ap (λ l. work_at l k) (sym is) ∙ at) stays t))

-- the same at any status that it may get
pub kept_open : (status : Status) (f : Work → Work) → ((w : Work) → (f w).status ≡ status) → (gs now : List Guest) (k : ℕ) → gs ≡ now → StaysOpen status (work_at now k)
    → cond (is_open status) (open_places gs) (places_without k (open_places gs)) ≡ open_places (change_place f gs k)
kept_open status f same gs now k is stays = go (is_open status) refl
  where
    go : (b : Bool) → is_open status ≡ b → cond b (open_places gs) (places_without k (open_places gs)) ≡ open_places (change_place f gs k)
    go true t = sym (stays_open status f same t gs now k is stays)
    go false t = sym (open_ended f gs k (λ w. ap is_open (same w) ∙ t))

-- ---- a new guest

with_zero : (ps : List ℕ) → places_with 0 ps ≡ 0 ∷ map suc ps
with_zero [] = refl
with_zero (p ∷ ps) =
    cond-false (nat_lt p 0) (p ∷ places_with 0 ps) (0 ∷ map suc (p ∷ ps)) (false_from_ne_true (nat_lt p 0) (λ t. absurd (omega (arith, ltb-true p 0 t))))

suc_lower : (p k : ℕ) → nat_lt (suc p) (suc k) ≡ nat_lt p k
suc_lower p k = go (nat_lt p k) refl
  where
    go : (b : Bool) → nat_lt p k ≡ b → nat_lt (suc p) (suc k) ≡ b
    go true e = lt-ltb (suc p) (suc k) (omega (arith, ltb-true p k e))
    go false e = false_from_ne_true (nat_lt (suc p) (suc k)) (λ t. absurd (omega (arith, ltb-false p k e, ltb-true (suc p) (suc k) t)))

with_suc : (k : ℕ) (ps : List ℕ) → places_with (suc k) (map suc ps) ≡ map suc (places_with k ps)
with_suc k [] = refl
with_suc k (p ∷ ps) =
    ap (λ b. cond b (suc p ∷ places_with (suc k) (map suc ps)) (suc k ∷ map suc (suc p ∷ map suc ps))) (suc_lower p k) ∙ go (nat_lt p k) (with_suc k ps)
  where
    go : (b : Bool) → places_with (suc k) (map suc ps) ≡ map suc (places_with k ps)
        → cond b (suc p ∷ places_with (suc k) (map suc ps)) (suc k ∷ map suc (suc p ∷ map suc ps)) ≡ map suc (cond b (p ∷ places_with k ps) (k ∷ map suc (p ∷ ps)))
    go true e = ap (λ l. suc p ∷ l) e
    go false e = refl

zero_first : (k : ℕ) (ps : List ℕ) → places_with (suc k) (0 ∷ ps) ≡ 0 ∷ places_with (suc k) ps
zero_first k ps = cond-true (nat_lt 0 (suc k)) (0 ∷ places_with (suc k) ps) (suc k ∷ map suc (0 ∷ ps)) (lt-ltb 0 (suc k) (omega arith))

pub open_put : (gs : List Guest) (k : ℕ) (new : Guest) → is_open new.work.status ≡ true → k ≤ length gs → open_places (insert gs k new) ≡ places_with k (open_places gs)
open_put gs zero new h le =
    cond-true (is_open new.work.status) (0 ∷ map suc (open_places gs)) (map suc (open_places gs)) h ∙ sym (with_zero (open_places gs))
open_put [] (suc k) new h le = absurd (omega (arith, le))
open_put (g ∷ gs) (suc k) new h le =
    go (is_open g.work.status) (ap (map suc) (open_put gs k new h (omega (arith, le))) ∙ sym (with_suc k (open_places gs)))
  where
    go : (b : Bool) → map suc (open_places (insert gs k new)) ≡ places_with (suc k) (map suc (open_places gs))
        → cond b (0 ∷ map suc (open_places (insert gs k new))) (map suc (open_places (insert gs k new)))
        ≡ places_with (suc k) (cond b (0 ∷ map suc (open_places gs)) (map suc (open_places gs)))
    go true e = ap (λ l. 0 ∷ l) e ∙ sym (zero_first k (map suc (open_places gs)))
    go false e = e

-- ---- the places as the code changes them

-- what stands below the place, and what from it on
pub record Parts (place : ℕ) (ps : List ℕ) (i : ℕ) : Type 0 where
  pub within : i ≤ length ps
  pub before : (k : ℕ) → k < i → get_or ps k 0 < place
  pub from : (k : ℕ) → i ≤ k → k < length ps → place ≤ get_or ps k 0

parts_behind : (place p : ℕ) (ps : List ℕ) (i : ℕ) → Parts place (p ∷ ps) (suc i) → Parts place ps i
parts_behind place p ps i h = record {
  within = omega (arith, h.within);
  before = λ k l. h.before (suc k) (omega (arith, l));
  from = λ k le l. h.from (suc k) (omega (arith, le)) (omega (arith, l));
}

pub put_with : (place : ℕ) (ps : List ℕ) (i : ℕ) → Parts place ps i → take i ps ++ place ∷ map suc (drop i ps) ≡ places_with place ps
put_with place [] zero h = refl
put_with place [] (suc i) h = absurd (omega (arith, h.within))
put_with place (p ∷ ps) zero h =
    sym (cond-false (nat_lt p place) (p ∷ places_with place ps) (place ∷ map suc (p ∷ ps))
    (false_from_ne_true (nat_lt p place) (λ t. absurd (omega (arith, h.from 0 (omega arith) (omega arith), ltb-true p place t)))))
put_with place (p ∷ ps) (suc i) h =
    ap (λ l. p ∷ l) (put_with place ps i (parts_behind place p ps i h))
    ∙ sym (cond-true (nat_lt p place) (p ∷ places_with place ps) (place ∷ map suc (p ∷ ps)) (lt-ltb p place (h.before 0 (omega arith))))

pub removed_without : (place : ℕ) (ps : List ℕ) (i : ℕ) → Parts place ps i → i < length ps → get_or ps i 0 ≡ place → remove ps i ≡ places_without place ps
removed_without place [] i h l e = absurd (omega (arith, l))
removed_without place (p ∷ ps) zero h l e = sym (cond-true (p == place) ps (p ∷ places_without place ps) (eq-eqb p place e))
removed_without place (p ∷ ps) (suc i) h l e =
    ap (λ l. p ∷ l) (removed_without place ps i (parts_behind place p ps i h) (omega (arith, l)) e)
    ∙ sym (cond-false (p == place) ps (p ∷ places_without place ps) (false_from_ne_true (p == place) (λ t. absurd (omega (arith, h.before 0 (omega arith), eqb-true p place t)))))

pub none_without : (place : ℕ) (ps : List ℕ) → ((k : ℕ) → k < length ps → get_or ps k 0 ≢ place) → ps ≡ places_without place ps
none_without place [] h = refl
none_without place (p ∷ ps) h =
    ap (λ l. p ∷ l) (none_without place ps (λ k l. h (suc k) (omega (arith, l))))
    ∙ sym (cond-false (p == place) ps (p ∷ places_without place ps) (false_from_ne_true (p == place) (λ t. h 0 (omega arith) (eqb-true p place t))))

-- the place isn't there, since what stands where it would be is another
pub absent_without : (place : ℕ) (ps : List ℕ) (i : ℕ) → ((a b d : ℕ) → a ≤ b → b < length ps → get_or ps a d ≤ get_or ps b d) → Parts place ps i
    → (i < length ps → get_or ps i 0 ≢ place) → ps ≡ places_without place ps
absent_without place ps i rise h other = none_without place ps (λ k l e. go k l e (nat_lt k i) refl)
  where
    go : (k : ℕ) → k < length ps → get_or ps k 0 ≡ place → (b : Bool) → nat_lt k i ≡ b → ⊥
    go k l e true t = omega (arith, h.before k (ltb-true k i t), e)
    go k l e false t =
        let le : i ≤ k = ltb-false k i t in
        let first : i < length ps = omega (arith, le, l) in
        other first (omega (arith, rise i k 0 le l, h.from i (omega arith) first, e))

-- ---- wanted guests are open

pub record IsUnwanted (s : Status) : Type 0 where
  pub ready : is_ready s ≡ false
  pub here : is_here s ≡ false
  pub split : is_split s ≡ false
  pub out : is_out s ≡ false

ended_unwanted : (s : Status) → is_open s ≡ false → IsUnwanted s
ended_unwanted Ready h = absurd (true≢false h)
ended_unwanted Here h = absurd (true≢false h)
ended_unwanted Split h = absurd (true≢false h)
ended_unwanted (Out thief) h = absurd (true≢false h)
ended_unwanted (Finished result) h = absurd (true≢false h)
ended_unwanted (Done result) h = record { ready = refl; here = refl; split = refl; out = refl }
ended_unwanted (Settled result) h = record { ready = refl; here = refl; split = refl; out = refl }
ended_unwanted Aborted h = record { ready = refl; here = refl; split = refl; out = refl }
ended_unwanted Dropped h = record { ready = refl; here = refl; split = refl; out = refl }

unwanted : (wanted : Wanted) (w : Work) → is_open w.status ≡ false → is_wanted wanted w ≡ false
unwanted wants.Ready w h = (ended_unwanted w.status h).ready
unwanted wants.Ripe w h = ap (λ b. b && is_settled (heard_work w.inlet)) (ended_unwanted w.status h).split
unwanted wants.Here w h = (ended_unwanted w.status h).here
unwanted wants.Out w h = (ended_unwanted w.status h).out

pub first_open : (wanted : Wanted) (gs : List Guest) → first_wanted wanted (open_of gs) ≡ first_wanted wanted gs
first_open wanted [] = refl
first_open wanted (g ∷ gs) = go (is_open g.work.status) refl (first_open wanted gs)
  where
    it : Option WorkUnit
    it = Some (units.Guest g.name g.work.attempt)

    go : (b : Bool) → is_open g.work.status ≡ b → first_wanted wanted (open_of gs) ≡ first_wanted wanted gs
        → first_wanted wanted (cond b (g ∷ open_of gs) (open_of gs)) ≡ cond (is_wanted wanted g.work) it (first_wanted wanted gs)
    go true t e = ap (cond (is_wanted wanted g.work) it) e
    go false t e = e ∙ sym (cond-false (is_wanted wanted g.work) it (first_wanted wanted gs) (unwanted wanted g.work t))

-- ---- as the site sees them

whole_open : (guests : List Guest) → AllByRecursion (λ g. g.prefix ≡ g.work.path.options) guests → (k : ℕ) (g : Guest) → slice_get (open_of guests) k ≡ Some g → g.prefix ≡ g.work.path.options
whole_open [] h k g at = absurd (none-some g at)
whole_open (x ∷ xs) h k g at = go (is_open x.work.status) k at (λ j e. whole_open xs h.1 j g e)
  where
    go : (b : Bool) (j : ℕ) → slice_get (cond b (x ∷ open_of xs) (open_of xs)) j ≡ Some g → ((i : ℕ) → slice_get (open_of xs) i ≡ Some g → g.prefix ≡ g.work.path.options) → g.prefix ≡ g.work.path.options
    go true zero e later = let same = same_Some x g e in ap (λ y. y.prefix) (sym same) ∙ h.0 ∙ ap (λ y. y.work.path.options) same
    go true (suc j) e later = later j e
    go false j e later = later j e

pub open_view : (gs : List Guest) → map guest_entry (open_of gs) ≡ open_guests (map guest_entry gs)
open_view [] = refl
open_view (g ∷ gs) = go (is_open g.work.status) (open_view gs)
  where
    go : (b : Bool) → map guest_entry (open_of gs) ≡ open_guests (map guest_entry gs)
        → map guest_entry (cond b (g ∷ open_of gs) (open_of gs)) ≡ cond b (guest_entry g ∷ open_guests (map guest_entry gs)) (open_guests (map guest_entry gs))
    go true e = ap (λ l. guest_entry g ∷ l) e
    go false e = e

-- ---- the walk through the open guests

drop_got : (gs : List Guest) (i : ℕ) (g : Guest) → slice_get gs i ≡ Some g → drop i gs ≡ g ∷ drop (suc i) gs
drop_got [] i g at = absurd (none-some g at)
drop_got (h ∷ hs) zero g at = ap (λ x. x ∷ hs) (same_Some h g at)
drop_got (h ∷ hs) (suc i) g at = drop_got hs i g at

pub first_here : (wanted : Wanted) (gs : List Guest) (i : ℕ) (g : Guest) → slice_get gs i ≡ Some g → is_wanted wanted g.work ≡ true
    → Some (units.Guest g.name g.work.attempt) ≡ first_wanted wanted (drop i gs)
first_here wanted gs i g at t =
    sym (cond-true (is_wanted wanted g.work) (Some (units.Guest g.name g.work.attempt)) (first_wanted wanted (drop (suc i) gs)) t)
    ∙ sym (ap (first_wanted wanted) (drop_got gs i g at))

pub first_later : (wanted : Wanted) (gs : List Guest) (i : ℕ) (g : Guest) → slice_get gs i ≡ Some g → is_wanted wanted g.work ≡ false
    → first_wanted wanted (drop (i + 1) gs) ≡ first_wanted wanted (drop i gs)
first_later wanted gs i g at t =
    let next : i + 1 ≡ suc i = omega arith in
    ap (λ n. first_wanted wanted (drop n gs)) next
    ∙ sym (cond-false (is_wanted wanted g.work) (Some (units.Guest g.name g.work.attempt)) (first_wanted wanted (drop (suc i) gs)) t)
    ∙ sym (ap (first_wanted wanted) (drop_got gs i g at))

-- ---- a guest at its place

pub place_written : (f : Work → Work) (gs : List Guest) (k : ℕ) (g : Guest) (w : Work) → k < length gs → g ≡ get_or gs k g → w ≡ f g.work
    → slice_set gs k (record { name = g.name; prefix = g.prefix; work = w }) ≡ change_place f gs k
place_written f [] k g w h at e = absurd (omega (arith, h))
place_written f (x ∷ xs) zero g w h at e =
    ap (λ v. record { name = g.name; prefix = g.prefix; work = v } ∷ xs) e ∙ ap (λ y. guest_with f y ∷ xs) at
place_written f (x ∷ xs) (suc k) g w h at e = ap (λ l. x ∷ l) (place_written f xs k g w (omega (arith, h)) at e)

pub place_got : (gs : List Guest) (k : ℕ) (g : Guest) → k < length gs → g ≡ get_or gs k g → work_at gs k ≡ Some g.work
place_got gs k g h at = ap (option_map (λ x. x.work)) (slice_get-get_or gs k g h ∙ ap Some (sym at))

pub place_changed : (f : Work → Work) (gs : List Guest) (name : ChildName) (attempt : ℕ) (i : ℕ) → Some i ≡ position (λ h. is_guest name attempt (guest_entry h)) gs
    → change_place f gs i ≡ change_work f gs name attempt
place_changed f [] name attempt i e = absurd (none-some i (sym e))
place_changed f (x ∷ xs) name attempt i e =
    let gs : List Guest = x ∷ xs in
    let p = place_read gs name attempt i x e in
    let at = get_or_default gs i x (get_or gs i x) p.within in
    sym (place_written f gs i (get_or gs i x) (f (get_or gs i x).work) p.within at refl) ∙ guest_set f gs name attempt i (get_or gs i x) p at

pub place_work : (gs : List Guest) (name : ChildName) (attempt : ℕ) (i : ℕ) → Some i ≡ position (λ h. is_guest name attempt (guest_entry h)) gs
    → work_at gs i ≡ guest_work gs name attempt
place_work [] name attempt i e = absurd (none-some i (sym e))
place_work (x ∷ xs) name attempt i e =
    let gs : List Guest = x ∷ xs in
    let p = place_read gs name attempt i x e in
    let at = get_or_default gs i x (get_or gs i x) p.within in
    place_got gs i (get_or gs i x) p.within at ∙ sym (guest_get gs name attempt i (get_or gs i x) p at)

-- ---- places moved on by one

pub moved_more : (was ps : List ℕ) (i : ℕ) → i < length was → length ps ≡ length was → ps ≡ map suc (take i was) ++ drop i was
    → slice_set ps i (get_or ps i 0 + 1) ≡ map suc (take (i + 1) was) ++ drop (i + 1) was
moved_more was ps i h n e =
    let within : i < length ps = omega (arith, h, n) in
    let next : get_or ps i 0 + 1 ≡ suc (get_or ps i 0) = omega arith in
    ap (slice_set ps i) next ∙ map_over_more suc was ps i (get_or ps i 0) h e (get_or_default ps i 0 (get_or ps i 0) within)

-- what the vector holds once the places from i on are moved
abbrev pub moved_list : List ℕ → List ℕ → ℕ → List ℕ
moved_list lent moved i = take i lent ++ (moved ++ drop (length lent - i) (drop i lent))

moved_all : (lent moved : List ℕ) (i : ℕ) → moved ≡ map suc (take (length lent - i) (drop i lent)) → moved ++ drop (length lent - i) (drop i lent) ≡ map suc (drop i lent)
moved_all lent moved i e =
    (λ j. (e ∙ ap (map suc) (take_rest lent i)) j ++ drop_all (length lent - i) (drop i lent) (omega (arith, length-drop i lent)) j) ∙ append-nil (map suc (drop i lent))

pub moved_length : (was lent moved : List ℕ) (i : ℕ) → i ≤ length was → lent ≡ was → moved ≡ map suc (take (length lent - i) (drop i lent)) → length (moved_list lent moved i) ≡ length lent
moved_length was lent moved i le is e =
    ap (λ l. length (take i lent ++ l)) (moved_all lent moved i e)
    ∙ omega (arith, le, ap length is, length-append (take i lent) (map suc (drop i lent)), length-take i lent, length-map (drop i lent) suc, length-drop i lent)

pub put_moved : (place : ℕ) (was lent moved : List ℕ) (i : ℕ) → Parts place was i → lent ≡ was → moved ≡ map suc (take (length lent - i) (drop i lent))
    → insert (moved_list lent moved i) i place ≡ places_with place was
put_moved place was lent moved i h is e =
    let n : length (take i lent) ≡ i = omega (arith, h.within, ap length is, length-take i lent) in
    ap (λ l. insert (take i lent ++ l) i place) (moved_all lent moved i e)
    ∙ (λ j. take_at (take i lent) (map suc (drop i lent)) i n j ++ place ∷ drop_at (take i lent) (map suc (drop i lent)) i n j)
    ∙ ap (λ l. take i l ++ place ∷ map suc (drop i l)) is
    ∙ put_with place was i h

-- ---- what a unit may get

-- what may become so is open, where it is a guest
pub becoming_stays : (site : Site) (limit : ℕ) (own : List Child) (guests : List Guest) (unit : WorkUnit) (status : Status)
    → has_status (may_become unit status) (unit_of (table_of site limit own guests) unit) ≡ true → StaysOpen status (guest_of unit guests)
becoming_stays site limit own guests (units.Own k) status t = tt
becoming_stays site limit own guests (units.Guest name attempt) status t =
    let g = guest_with_status (may_become (units.Guest name attempt) status) guests name attempt t in
    let open_before = (and_parts (is_open g.work.status) (keeps_frame status g.work.status) (and_parts (suits (units.Guest name attempt) status) (is_open g.work.status && keeps_frame status g.work.status) g.passes).1).0 in
    subst (StaysOpen status) (sym g.is) (λ h. open_before)

-- what is here is open
pub here_stays : (own : List Child) (guests : List Guest) (unit : WorkUnit) (status : Status) (w : Work) → work_in own guests unit ≡ Some w → is_here w.status ≡ true → StaysOpen status (guest_of unit guests)
here_stays own guests (units.Own k) status w e t = tt
here_stays own guests (units.Guest name attempt) status w e t = subst (StaysOpen status) (sym e) (λ h. go (is_open w.status) refl)
  where
    go : (b : Bool) → is_open w.status ≡ b → b ≡ true
    go true q = refl
    go false q = absurd (both_ways (is_here w.status) (ended_unwanted w.status q).here t)

-- ---- an open guest as it is told

pub open_seen : (guests : List Guest) → AllByRecursion (λ o. o.prefix ≡ o.path) (map origin_of guests) → (k : ℕ) (g : Guest) → slice_get (open_of guests) k ≡ Some g → (prefix : List ℕ) → prefix ≡ g.prefix
    → slice_get (open_guests (map guest_entry guests)) k ≡ Some (record { name = g.name; entry = record { parent = None; prefix = prefix; attempt = g.work.attempt; status = g.work.status } })
open_seen guests h k g at prefix is =
    ap (λ l. slice_get l k) (sym (open_view guests)) ∙ slice_get-map guest_entry (open_of guests) k ∙ ap (option_map guest_entry) at
    ∙ (λ j. Some (record { name = g.name; entry = record { parent = None; prefix = path j; attempt = g.work.attempt; status = g.work.status } }))
  where
    path : g.work.path.options ≡ prefix
    path = sym (whole_open guests (each_guest guests h) k g at) ∙ sym is
