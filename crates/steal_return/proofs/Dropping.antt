-- Guests that are dropped, since their owners are lost.
use Rattle.std.proofs.Common.{◌≡◌, ℕ, zero, suc, ◌+◌, drop, slice_get, arith, Bool, true, false, ◌&&◌, ◌||◌, cond, filter, map, List, [], ◌∷◌, ◌++◌, append_assoc, Some, refl, sym, ap, subst, ◌∙◌, true≢false}
use Rattle.std.specs.List.{AllByRecursion}
use Rattle.std.proofs.lemmas.Bool.{and_parts}
use Rattle.std.proofs.lemmas.Option.{none-some, same_Some}
use Rattle.std.proofs.Math.Bool.{and-false}
use Rattle.abort_tree.specs.Below.{is_among}
use Rattle.spawn_frame.specs.Aborts.{is_open}
use Rattle.spawn_frame.specs.Tables.{IsAscending, has_status, open_guests}
use Rattle.spawn_frame.specs.Units.{GuestEntry, change_guest, guest_in, is_guest, with_status}
use Rattle.spawn_frame.specs.declared.site.ChildName.{ChildName}
use Rattle.spawn_frame.specs.declared.status.Status.TheVariants.{Dropped}
use Rattle.spawn_frame.specs.declared.unit.Unit.{Unit as WorkUnit}
use Rattle.spawn_frame.specs.declared.unit.Unit.TheVariants.{Guest, Own}
use Rattle.steal_return.proofs.Order.{before, is_itself, key_path, other_guest, other_key, weaker}
use Rattle.steal_return.specs.Members.{MayDrop, drop_if, drop_lost, dropped, is_lost, is_lost_guest, lost_units}
use Rattle.steal_return.specs.Steals.{is_older}

-- a unit is another than this guest
abbrev Misses : GuestEntry → WorkUnit → Type 0
Misses g (Guest name attempt) = is_guest name attempt g ≡ false
Misses g (Own serial) = Unit {0}

may_skip : (units : List WorkUnit) (g : GuestEntry) (gs : List GuestEntry) → AllByRecursion (Misses g) units → MayDrop units gs → MayDrop units (g ∷ gs)
may_skip [] g gs a m = tt
may_skip (Guest n b ∷ us) g gs a m = (
  ap (λ c. has_status is_open (cond c (Some g.entry) (guest_in gs n b))) a.0 ∙ m.0,
  subst (MayDrop us) (sym (ap (λ c. cond c (record { name = g.name; entry = with_status Dropped g.entry } ∷ gs) (g ∷ change_guest (with_status Dropped) gs n b)) a.0))
      (may_skip us g (change_guest (with_status Dropped) gs n b) a.1 m.1),
)
may_skip (Own k ∷ us) g gs a m = may_skip us g gs a.1 m

skips : (units : List WorkUnit) (g : GuestEntry) (gs : List GuestEntry) → AllByRecursion (Misses g) units → dropped units (g ∷ gs) ≡ g ∷ dropped units gs
skips [] g gs a = refl
skips (Guest n b ∷ us) g gs a =
    ap (λ c. dropped us (cond c (record { name = g.name; entry = with_status Dropped g.entry } ∷ gs) (g ∷ change_guest (with_status Dropped) gs n b))) a.0
    ∙ skips us g (change_guest (with_status Dropped) gs n b) a.1
skips (Own k ∷ us) g gs a = skips us g gs a.1

-- lost guests behind one are others
lost_others : (known : List ℕ) (g : GuestEntry) (hs : List GuestEntry) → AllByRecursion (λ h. before g h ≡ true) hs → AllByRecursion (Misses g) (lost_units known hs)
lost_others known g [] a = tt
lost_others known g (h ∷ hs) a = go (is_lost known h) (lost_others known g hs a.1)
  where
    go : (b : Bool) → AllByRecursion (Misses g) (lost_units known hs)
        → AllByRecursion (Misses g) (map (λ x. Guest x.name x.entry.attempt) (cond b (h ∷ filter (is_lost known) hs) (filter (is_lost known) hs)))
    go true on = (other_guest g h a.0, on)
    go false on = on

pub lost_may_drop : (known : List ℕ) (gs : List GuestEntry) → IsAscending gs → MayDrop (lost_units known gs) gs
lost_may_drop known [] o = tt
lost_may_drop known (g ∷ hs) o = go (is_lost known g) refl (lost_may_drop known hs o.1)
  where
    go : (b : Bool) → is_lost known g ≡ b → MayDrop (lost_units known hs) hs
        → MayDrop (map (λ x. Guest x.name x.entry.attempt) (cond b (g ∷ filter (is_lost known) hs) (filter (is_lost known) hs))) (g ∷ hs)
    go true t on = (
      ap (λ c. has_status is_open (cond c (Some g.entry) (guest_in hs g.name g.entry.attempt))) (is_itself g) ∙ (and_parts (is_older known g.name.site) (is_open g.entry.status) t).1,
      subst (MayDrop (lost_units known hs))
          (sym (ap (λ c. cond c (record { name = g.name; entry = with_status Dropped g.entry } ∷ hs) (g ∷ change_guest (with_status Dropped) hs g.name g.entry.attempt)) (is_itself g)))
          (may_skip (lost_units known hs) (record { name = g.name; entry = with_status Dropped g.entry }) hs (lost_others known g hs o.0) on),
    )
    go false t on = may_skip (lost_units known hs) g hs (lost_others known g hs o.0) on

pub lost_dropped : (known : List ℕ) (gs : List GuestEntry) → IsAscending gs → dropped (lost_units known gs) gs ≡ drop_lost known gs
lost_dropped known [] o = refl
lost_dropped known (g ∷ hs) o = go (is_lost known g) (lost_dropped known hs o.1)
  where
    go : (b : Bool) → dropped (lost_units known hs) hs ≡ drop_lost known hs
        → dropped (map (λ x. Guest x.name x.entry.attempt) (cond b (g ∷ filter (is_lost known) hs) (filter (is_lost known) hs))) (g ∷ hs) ≡ drop_if b g ∷ drop_lost known hs
    go true on =
        ap (λ c. dropped (lost_units known hs) (cond c (record { name = g.name; entry = with_status Dropped g.entry } ∷ hs) (g ∷ change_guest (with_status Dropped) hs g.name g.entry.attempt))) (is_itself g)
        ∙ skips (lost_units known hs) (record { name = g.name; entry = with_status Dropped g.entry }) hs (lost_others known g hs o.0)
        ∙ ap (λ l. record { name = g.name; entry = with_status Dropped g.entry } ∷ l) on
    go false on = skips (lost_units known hs) g hs (lost_others known g hs o.0) ∙ ap (λ l. g ∷ l) on

-- ---- the lost guests are those that an abort goes out from

none_own : (known : List ℕ) (gs : List GuestEntry) (k : ℕ) → is_among (lost_units known gs) (Own k) ≡ false
none_own known [] k = refl
none_own known (g ∷ hs) k = go (is_lost known g) (none_own known hs k)
  where
    go : (b : Bool) → is_among (lost_units known hs) (Own k) ≡ false
        → is_among (map (λ x. Guest x.name x.entry.attempt) (cond b (g ∷ filter (is_lost known) hs) (filter (is_lost known) hs))) (Own k) ≡ false
    go true on = on
    go false on = on

none_other : (known : List ℕ) (gs : List GuestEntry) (n : ChildName) (a : ℕ) → AllByRecursion (λ h. is_guest n a h ≡ false) gs
    → is_among (lost_units known gs) (Guest n a) ≡ false
none_other known [] n a o = refl
none_other known (g ∷ hs) n a o = go (is_lost known g) (none_other known hs n a o.1)
  where
    go : (b : Bool) → is_among (lost_units known hs) (Guest n a) ≡ false
        → is_among (map (λ x. Guest x.name x.entry.attempt) (cond b (g ∷ filter (is_lost known) hs) (filter (is_lost known) hs))) (Guest n a) ≡ false
    go true on = ap (λ c. c || is_among (lost_units known hs) (Guest n a)) o.0 ∙ on
    go false on = on

lost_one : (known : List ℕ) (gs : List GuestEntry) → IsAscending gs → (n : ChildName) (a : ℕ)
    → is_among (lost_units known gs) (Guest n a) ≡ (is_older known n.site && has_status is_open (guest_in gs n a))
lost_one known [] o n a = sym (and-false (is_older known n.site))
lost_one known (g ∷ hs) o n a = go (is_guest n a g) refl (is_lost known g) refl (lost_one known hs o.1 n a)
  where
    others : is_guest n a g ≡ true → AllByRecursion (λ h. is_guest n a h ≡ false) hs
    others t =
        let p = key_path n a g t in
        subst (λ m. AllByRecursion (λ h. is_guest m a h ≡ false) hs) p.0
        (subst (λ b. AllByRecursion (λ h. is_guest g.name b h ≡ false) hs) p.1
        (weaker (λ h. before g h ≡ true) (λ h. is_guest g.name g.entry.attempt h ≡ false) hs (λ h b. other_key g h b) o.0))

    same : is_guest n a g ≡ true → is_lost known g ≡ (is_older known n.site && is_open g.entry.status)
    same t = ap (λ m. is_older known m.site && is_open g.entry.status) (key_path n a g t).0

    go : (b : Bool) → is_guest n a g ≡ b → (l : Bool) → is_lost known g ≡ l
        → is_among (lost_units known hs) (Guest n a) ≡ (is_older known n.site && has_status is_open (guest_in hs n a))
        → is_among (map (λ x. Guest x.name x.entry.attempt) (cond l (g ∷ filter (is_lost known) hs) (filter (is_lost known) hs))) (Guest n a)
        ≡ (is_older known n.site && has_status is_open (cond b (Some g.entry) (guest_in hs n a)))
    go true t true l on = ap (λ c. c || is_among (lost_units known hs) (Guest n a)) t ∙ sym l ∙ same t
    go true t false l on = none_other known hs n a (others t) ∙ sym l ∙ same t
    go false t true l on = ap (λ c. c || is_among (lost_units known hs) (Guest n a)) t ∙ on
    go false t false l on = on

pub lost_tops : (known : List ℕ) (gs : List GuestEntry) → IsAscending gs → is_among (lost_units known gs) ≡ is_lost_guest known gs
lost_tops known gs o = λ i u. at u i
  where
    at : (u : WorkUnit) → is_among (lost_units known gs) u ≡ is_lost_guest known gs u
    at (Own k) = none_own known gs k
    at (Guest n a) = lost_one known gs o n a

-- where none is lost, none is dropped
pub none_dropped : (known : List ℕ) (gs : List GuestEntry) → lost_units known gs ≡ [] → drop_lost known gs ≡ gs
none_dropped known [] e = refl
none_dropped known (g ∷ hs) e = go (is_lost known g) e (λ f. none_dropped known hs f)
  where
    go : (b : Bool) → map (λ x. Guest x.name x.entry.attempt) (cond b (g ∷ filter (is_lost known) hs) (filter (is_lost known) hs)) ≡ []
        → (lost_units known hs ≡ [] → drop_lost known hs ≡ hs) → drop_if b g ∷ drop_lost known hs ≡ g ∷ hs
    go true f on = absurd (cc)
    go false f on = ap (λ l. g ∷ l) (on f)

-- where one is lost, the guests change
pub some_dropped : (known : List ℕ) (gs : List GuestEntry) (u : WorkUnit) (us : List WorkUnit) → lost_units known gs ≡ u ∷ us → drop_lost known gs ≡ gs → ⊥
some_dropped known [] u us e d = cc
some_dropped known (g ∷ hs) u us e d = go (is_lost known g) refl e d (λ f h. some_dropped known hs u us f h)
  where
    go : (b : Bool) → is_lost known g ≡ b → map (λ x. Guest x.name x.entry.attempt) (cond b (g ∷ filter (is_lost known) hs) (filter (is_lost known) hs)) ≡ u ∷ us
        → drop_if b g ∷ drop_lost known hs ≡ g ∷ hs → (lost_units known hs ≡ u ∷ us → drop_lost known hs ≡ hs → ⊥) → ⊥
    go true t f h on =
        let same : record { name = g.name; entry = with_status Dropped g.entry } ≡ g = cc in
        true≢false (sym (and_parts (is_older known g.name.site) (is_open g.entry.status) t).1 ∙ ap (λ x. is_open x.entry.status) (sym same))
    go false t f h on = on f (let s : drop_lost known hs ≡ hs = cc in s)

-- ---- a walk that collects the lost guests

-- they are among the open ones
pub lost_open : (known : List ℕ) (gs : List GuestEntry) → lost_units known (open_guests gs) ≡ lost_units known gs
lost_open known [] = refl
lost_open known (g ∷ hs) = go (is_open g.entry.status) refl (is_lost known g) refl (lost_open known hs)
  where
    go : (b : Bool) → is_open g.entry.status ≡ b → (l : Bool) → is_lost known g ≡ l → lost_units known (open_guests hs) ≡ lost_units known hs
        → lost_units known (cond b (g ∷ open_guests hs) (open_guests hs)) ≡ map (λ x. Guest x.name x.entry.attempt) (cond l (g ∷ filter (is_lost known) hs) (filter (is_lost known) hs))
    go true t true l e =
        ap (λ c. map (λ x. Guest x.name x.entry.attempt) (cond c (g ∷ filter (is_lost known) (open_guests hs)) (filter (is_lost known) (open_guests hs)))) l
        ∙ ap (λ us. Guest g.name g.entry.attempt ∷ us) e
    go true t false l e =
        ap (λ c. map (λ x. Guest x.name x.entry.attempt) (cond c (g ∷ filter (is_lost known) (open_guests hs)) (filter (is_lost known) (open_guests hs)))) l ∙ e
    go false t true l e = absurd (true≢false (sym (and_parts (is_older known g.name.site) (is_open g.entry.status) l).1 ∙ t))
    go false t false l e = e

one_more : (known : List ℕ) (gs : List GuestEntry) (k : ℕ) (g : GuestEntry) → slice_get gs k ≡ Some g
    → lost_units known (drop k gs) ≡ cond (is_lost known g) (Guest g.name g.entry.attempt ∷ lost_units known (drop (suc k) gs)) (lost_units known (drop (suc k) gs))
one_more known [] k g at = absurd (none-some g at)
one_more known (h ∷ hs) zero g at = go (is_lost known h) ∙ ap one (same_Some h g at)
  where
    one : GuestEntry → List WorkUnit
    one x = cond (is_lost known x) (Guest x.name x.entry.attempt ∷ lost_units known hs) (lost_units known hs)

    go : (b : Bool) → map (λ x. Guest x.name x.entry.attempt) (cond b (h ∷ filter (is_lost known) hs) (filter (is_lost known) hs))
        ≡ cond b (Guest h.name h.entry.attempt ∷ lost_units known hs) (lost_units known hs)
    go true = refl
    go false = refl
one_more known (h ∷ hs) (suc k) g at = one_more known hs k g at

pub walk_collects : (known : List ℕ) (gs : List GuestEntry) (k : ℕ) (g : GuestEntry) (so_far more all : List WorkUnit)
    → slice_get gs k ≡ Some g → true ≡ is_lost known g → more ≡ so_far ++ Guest g.name g.entry.attempt ∷ []
    → so_far ++ lost_units known (drop k gs) ≡ all → more ++ lost_units known (drop (k + 1) gs) ≡ all
walk_collects known gs k g so_far more all at lost pushed before_it =
    let rest = lost_units known (drop (suc k) gs) in
    let units = one_more known gs k g at ∙ ap (λ b. cond b (Guest g.name g.entry.attempt ∷ rest) rest) (sym lost) in
    ap (λ n. more ++ lost_units known (drop n gs)) (let e : k + 1 ≡ suc k = omega arith in e)
    ∙ ap (λ l. l ++ rest) pushed
    ∙ append_assoc so_far (Guest g.name g.entry.attempt ∷ []) rest
    ∙ ap (λ l. so_far ++ l) (sym units)
    ∙ before_it

pub walk_passes : (known : List ℕ) (gs : List GuestEntry) (k : ℕ) (g : GuestEntry) (so_far all : List WorkUnit)
    → slice_get gs k ≡ Some g → false ≡ is_lost known g
    → so_far ++ lost_units known (drop k gs) ≡ all → so_far ++ lost_units known (drop (k + 1) gs) ≡ all
walk_passes known gs k g so_far all at kept before_it =
    let rest = lost_units known (drop (suc k) gs) in
    let units = one_more known gs k g at ∙ ap (λ b. cond b (Guest g.name g.entry.attempt ∷ rest) rest) (sym kept) in
    ap (λ n. so_far ++ lost_units known (drop n gs)) (let e : k + 1 ≡ suc k = omega arith in e)
    ∙ ap (λ l. so_far ++ l) (sym units)
    ∙ before_it
