-- Guests in order, and what halving finds among them.
use Rattle.std.proofs.Common.{◌≡◌, ℕ, zero, suc, ◌+◌, ◌-◌, ◌<◌, ◌≤◌, Bool, true, false, cond, not, nat_lt, ◌==◌, List, [], ◌∷◌, map, length, get_or, find, position, Some, None, slice_get, refl, sym, ap, ◌∙◌, arith}
use Rattle.std.specs.List.{AllByRecursion, position_or_len}
use Rattle.std.specs.List.Sorted.{IsPartitionPoint, IsPartitionedBy}
use Rattle.std.proofs.lemmas.Bool.{and_parts, both_ways, eqb-false, eqb-true, false_from_ne_true, lt-ltb, ltb-false, ltb-true, not-true}
use Rattle.std.proofs.lemmas.List.{get_or_default}
use Rattle.std.proofs.lemmas.List.Sums.{fails_before_first, passes_at_first, position_or_len_is, prefix_len_is}
use Rattle.spawn_frame.specs.Names.{guest_before, same_name}
use Rattle.spawn_frame.specs.Tables.{IsAscending, is_after}
use Rattle.spawn_frame.specs.Units.{GuestEntry, is_guest}
use Rattle.spawn_frame.specs.Works.{guest_entry}
use Rattle.spawn_frame.specs.declared.guest.Guest.{Guest}
use Rattle.spawn_frame.specs.declared.site.ChildName.{ChildName}
use Rattle.spawn_frame.proofs.Orders.{before_on}
use Rattle.spawn_frame.proofs.Picked.{before_itself}
use Rattle.spawn_frame.proofs.Sames.{name_path}

-- a guest stands behind the name and attempt
abbrev pub behind : ChildName → ℕ → Guest → Bool
behind name attempt g = guest_before name attempt g.name g.work.attempt

all_at : (P : GuestEntry → Type 0) (gs : List Guest) (k : ℕ) (d : Guest) → AllByRecursion P (map guest_entry gs) → k < length gs → P (guest_entry (get_or gs k d))
all_at P [] k d h l = absurd (omega (arith, l))
all_at P (g ∷ gs) zero d h l = h.0
all_at P (g ∷ gs) (suc k) d h l = all_at P gs k d h.1 (omega (arith, l))

-- of two guests the one at the lower place stands before the other
ascending_at : (gs : List Guest) → IsAscending (map guest_entry gs) → (j k : ℕ) (d : Guest) → j < k → k < length gs
    → behind (get_or gs j d).name (get_or gs j d).work.attempt (get_or gs k d) ≡ true
ascending_at [] h j k d l m = absurd (omega (arith, m))
ascending_at (g ∷ gs) h j zero d l m = absurd (omega (arith, l))
ascending_at (g ∷ gs) h zero (suc k) d l m = all_at (λ x. guest_before g.name g.work.attempt x.name x.entry.attempt ≡ true) gs k d h.0 (omega (arith, m))
ascending_at (g ∷ gs) h (suc j) (suc k) d l m = ascending_at gs h.1 j k d (omega (arith, l)) (omega (arith, m))

-- what is behind is followed by what is behind
behind_on : (gs : List Guest) → IsAscending (map guest_entry gs) → (name : ChildName) (attempt : ℕ) (i j : ℕ) (d : Guest) → i ≤ j → j < length gs
    → behind name attempt (get_or gs i d) ≡ true → behind name attempt (get_or gs j d) ≡ true
behind_on gs h name attempt i j d le within t = go (i == j) refl
  where
    go : (b : Bool) → (i == j) ≡ b → behind name attempt (get_or gs j d) ≡ true
    go true e = ap (λ k. behind name attempt (get_or gs k d)) (sym (eqb-true i j e)) ∙ t
    go false e =
        let other = eqb-false i j e in
        before_on name (get_or gs i d).name (get_or gs j d).name attempt (get_or gs i d).work.attempt (get_or gs j d).work.attempt t
        (ascending_at gs h i j d (omega (arith, other, le)) within)

pub parted : (gs : List Guest) → IsAscending (map guest_entry gs) → (name : ChildName) (attempt : ℕ) → IsPartitionedBy (λ g. not (behind name attempt g)) gs
parted gs h name attempt i j d le within up = go (behind name attempt (get_or gs i d)) refl
  where
    go : (b : Bool) → behind name attempt (get_or gs i d) ≡ b → not b ≡ true
    go false e = refl
    go true e = absurd (both_ways (behind name attempt (get_or gs j d)) (not-true (behind name attempt (get_or gs j d)) up) (behind_on gs h name attempt i j d le within e))

-- the point of a partition is the place of the first that fails
pub point_is : (p : Guest → Bool) (gs : List Guest) (i : ℕ) → i ≤ length gs → IsPartitionPoint (λ g. not (p g) ≡ true) (λ g. not (p g) ≡ false) gs i → i ≡ position_or_len p gs
point_is p [] i le point = omega arith
point_is p (g ∷ gs) i le point = sym (prefix_len_is (λ x. not (p x)) (g ∷ gs) i g le (λ k l. point.0 k g (omega arith) l) (λ l. point.1 i g (omega arith) l))

-- ---- the guest of a name and attempt

-- a guest of the name and attempt doesn't stand behind it, nor does it behind the guest
at_itself : (name : ChildName) (attempt : ℕ) (g : Guest) → is_guest name attempt (guest_entry g) ≡ true → (m : ChildName) (b : ℕ)
    → guest_before m b g.name g.work.attempt ≡ guest_before m b name attempt
at_itself name attempt g t m b =
    let parts = and_parts (same_name g.name name) (g.work.attempt == attempt) t in
    let n : g.name ≡ name = name_path g.name name parts.0 in
    let a : g.work.attempt ≡ attempt = eqb-true g.work.attempt attempt parts.1 in
    λ i. guest_before m b (n i) (a i)

from_itself : (name : ChildName) (attempt : ℕ) (g : Guest) → is_guest name attempt (guest_entry g) ≡ true → (m : ChildName) (b : ℕ)
    → guest_before g.name g.work.attempt m b ≡ guest_before name attempt m b
from_itself name attempt g t m b =
    let parts = and_parts (same_name g.name name) (g.work.attempt == attempt) t in
    let n : g.name ≡ name = name_path g.name name parts.0 in
    let a : g.work.attempt ≡ attempt = eqb-true g.work.attempt attempt parts.1 in
    λ i. guest_before (n i) (a i) m b

module _ (gs : List Guest) (ascending : IsAscending (map guest_entry gs)) (name : ChildName) (attempt : ℕ) (i : ℕ)
    (i_is : i ≡ position_or_len (λ g. guest_before name attempt g.name g.work.attempt) gs) (within : i ≤ length gs) where
  abbrev is_it : Guest → Bool
  is_it g = is_guest name attempt (guest_entry g)

  -- no guest from the place on is it
  none_from : (k : ℕ) (d : Guest) → i ≤ k → k < length gs → is_it (get_or gs k d) ≡ false
  none_from k d le l = false_from_ne_true (is_it (get_or gs k d)) (λ t.
      let first : position_or_len (behind name attempt) gs < length gs = omega (arith, i_is, le, l) in
      let at : behind name attempt (get_or gs i d) ≡ true = ap (λ n. behind name attempt (get_or gs n d)) i_is ∙ passes_at_first (behind name attempt) gs d first in
      let later : behind name attempt (get_or gs k d) ≡ true = behind_on gs ascending name attempt i k d le l at in
      both_ways (guest_before name attempt name attempt) (before_itself name attempt) (sym (at_itself name attempt (get_or gs k d) t name attempt) ∙ later))

  -- nor is one before the last that doesn't stand behind
  none_before : (k j : ℕ) (d : Guest) → k < j → suc j ≡ i → is_it (get_or gs k d) ≡ false
  none_before k j d l e = false_from_ne_true (is_it (get_or gs k d)) (λ t.
      let fails : behind name attempt (get_or gs j d) ≡ false = fails_before_first (behind name attempt) gs j d (omega (arith, i_is, e)) in
      let up = ascending_at gs ascending k j d l (omega (arith, e, within)) in
      both_ways (behind name attempt (get_or gs j d)) fails (sym (from_itself name attempt (get_or gs k d) t (get_or gs j d).name (get_or gs j d).work.attempt) ∙ up))

  pub place_found : (g : Guest) → 0 < i → g ≡ get_or gs (i - 1) g → true ≡ is_it g → Some (i - 1) ≡ position is_it gs
  place_found g some at passes =
      let last : suc (i - 1) ≡ i = omega (arith, some) in
      let place : position_or_len is_it gs ≡ i - 1 =
      position_or_len_is is_it gs (i - 1) g (omega (arith, within)) (λ k l. none_before k (i - 1) g l last) (λ l. ap is_it (sym at) ∙ sym passes) in
      let there : nat_lt (i - 1) (length gs) ≡ true = lt-ltb (i - 1) (length gs) (omega (arith, some, within)) in
      sym (ap (λ n. cond (nat_lt n (length gs)) (Some n) None) place ∙ ap (λ b. cond b (Some (i - 1)) None) there)

  nowhere : ((k : ℕ) (d : Guest) → k < length gs → is_it (get_or gs k d) ≡ false) → None ≡ position is_it gs
  nowhere none = go (nat_lt (position_or_len is_it gs) (length gs)) refl gs refl
    where
      go : (b : Bool) → nat_lt (position_or_len is_it gs) (length gs) ≡ b → (hs : List Guest) → hs ≡ gs → None ≡ cond b (Some (position_or_len is_it gs)) None
      go false e hs same = refl
      go true e [] same = absurd (omega (arith, ltb-true (position_or_len is_it gs) (length gs) e, ap length same))
      go true e (h ∷ hs) same =
          let l = ltb-true (position_or_len is_it gs) (length gs) e in
          absurd (both_ways (is_it (get_or gs (position_or_len is_it gs) h)) (none (position_or_len is_it gs) h l) (passes_at_first is_it gs h l))

  pub place_none : i ≡ 0 → None ≡ position is_it gs
  place_none e = nowhere (λ k d l. none_from k d (omega (arith, e)) l)

  pub place_another : (g : Guest) → 0 < i → g ≡ get_or gs (i - 1) g → false ≡ is_it g → None ≡ position is_it gs
  place_another g some at fails = nowhere (λ k d l. go k d l (nat_lt k i) refl (k == i - 1) refl)
    where
      go : (k : ℕ) (d : Guest) → k < length gs → (b : Bool) → nat_lt k i ≡ b → (c : Bool) → (k == i - 1) ≡ c → is_it (get_or gs k d) ≡ false
      go k d l false b c e = none_from k d (ltb-false k i b) l
      go k d l true b true e =
          ap (λ n. is_it (get_or gs n d)) (eqb-true k (i - 1) e) ∙ ap is_it (get_or_default gs (i - 1) d g (omega (arith, some, within)) ∙ sym at) ∙ sym fails
      go k d l true b false e =
          let below = ltb-true k i b in
          let other = eqb-false k (i - 1) e in
          none_before k (i - 1) d (omega (arith, below, other)) (omega (arith, some))

-- ---- the first guest behind another

pub first_behind : (name : ChildName) (attempt : ℕ) (gs : List Guest)
    → find (is_after (Some (name, attempt))) (map guest_entry gs) ≡ slice_get (map guest_entry gs) (position_or_len (behind name attempt) gs)
first_behind name attempt [] = refl
first_behind name attempt (g ∷ gs) = go (behind name attempt g) (first_behind name attempt gs)
  where
    go : (b : Bool) → find (is_after (Some (name, attempt))) (map guest_entry gs) ≡ slice_get (map guest_entry gs) (position_or_len (behind name attempt) gs)
        → cond b (Some (guest_entry g)) (find (is_after (Some (name, attempt))) (map guest_entry gs))
        ≡ slice_get (guest_entry g ∷ map guest_entry gs) (cond (not b) (1 + position_or_len (behind name attempt) gs) 0)
    go true e = refl
    go false e =
        let next : suc (position_or_len (behind name attempt) gs) ≡ 1 + position_or_len (behind name attempt) gs = omega arith in
        e ∙ ap (slice_get (guest_entry g ∷ map guest_entry gs)) next

pub first_of_all : (gs : List Guest) → find (is_after None) (map guest_entry gs) ≡ slice_get (map guest_entry gs) 0
first_of_all [] = refl
first_of_all (g ∷ gs) = refl

pub guest_there_at : (gs : List Guest) (k : ℕ) (g : Guest) → k < length gs → g ≡ get_or gs k g → Some (guest_entry g) ≡ slice_get (map guest_entry gs) k
guest_there_at [] k g l at = absurd (omega (arith, l))
guest_there_at (x ∷ xs) zero g l at = ap (λ y. Some (guest_entry y)) at
guest_there_at (x ∷ xs) (suc k) g l at = guest_there_at xs k g (omega (arith, l)) at

pub none_there_at : (gs : List Guest) (k : ℕ) → length gs ≤ k → None ≡ slice_get (map guest_entry gs) k
none_there_at [] k l = refl
none_there_at (x ∷ xs) zero l = absurd (omega (arith, l))
none_there_at (x ∷ xs) (suc k) l = none_there_at xs k (omega (arith, l))
