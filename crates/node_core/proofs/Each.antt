-- What holds of each unit of a list holds of each of the lists that steps make of it.
use Rattle.std.proofs.Common.{◌≡◌, ◌⊎◌, ℕ, zero, suc, Bool, true, false, ◌&&◌, ◌==◌, cond, List, [], ◌∷◌, ◌++◌, length, map, Some, slice_get, refl, sym, ap, subst, ◌∙◌, inl, inr, ⊎_elim}
use Rattle.std.specs.List.{AllByRecursion, list_all}
use Rattle.std.proofs.lemmas.Bool.{and_parts, eqb-true}
use Rattle.std.proofs.lemmas.Option.{none-some, same_Some}
use Rattle.spawn_frame.proofs.Sames.{name_path}
use Rattle.spawn_frame.specs.Aborts.{AbortsBelow, is_open}
use Rattle.spawn_frame.specs.Names.{same_name}
use Rattle.spawn_frame.specs.Tables.{guest_key}
use Rattle.spawn_frame.specs.Units.{Entry, GuestEntry, change_at, change_guest, guest_in, is_guest, with_status}
use Rattle.spawn_frame.specs.declared.site.ChildName.{ChildName}
use Rattle.spawn_frame.specs.declared.status.Status.{Status}
use Rattle.spawn_frame.specs.declared.status.Status.TheVariants.{Aborted, Dropped}
use Rattle.spawn_frame.specs.declared.unit.Unit.{Unit as WorkUnit}
use Rattle.steal_return.specs.Members.{drop_if, drop_lost}
use Rattle.steal_return.specs.Steals.{is_older}

pub each_append : {X : Type 0} (P : X → Type 0) (xs ys : List X) → AllByRecursion P xs → AllByRecursion P ys → AllByRecursion P (xs ++ ys)
each_append P [] ys h k = k
each_append P (x ∷ xs) ys h k = (h.0, each_append P xs ys h.1 k)

pub each_at : {X : Type 0} (P : X → Type 0) (xs : List X) (k : ℕ) (x : X) → AllByRecursion P xs → slice_get xs k ≡ Some x → P x
each_at P [] k x h at = absurd (none-some x at)
each_at P (y ∷ ys) zero x h at = subst P (same_Some y x at) h.0
each_at P (y ∷ ys) (suc k) x h at = each_at P ys k x h.1 at

pub each_mapped : {X Y : Type 0} (P : X → Type 0) (Q : Y → Type 0) (f : X → Y) (xs : List X) → ((x : X) → P x → Q (f x)) → AllByRecursion P xs → AllByRecursion Q (map f xs)
each_mapped P Q f [] g h = tt
each_mapped P Q f (x ∷ xs) g h = (g x h.0, each_mapped P Q f xs g h.1)

-- ---- own children

pub each_changed : (P : Entry → Type 0) (f : Entry → Entry) (own : List Entry) (k : ℕ) → ((c : Entry) → slice_get own k ≡ Some c → P c → P (f c)) → AllByRecursion P own → AllByRecursion P (change_at f own k)
each_changed P f [] k g h = tt
each_changed P f (c ∷ cs) zero g h = (g c refl h.0, h.1)
each_changed P f (c ∷ cs) (suc k) g h = (h.0, each_changed P f cs k g h.1)

-- each child that was there is aborted, or as it was
abbrev pub MayAbort : List Entry → List Entry → Type 0
MayAbort old new = (k : ℕ) (c : Entry) → slice_get old k ≡ Some c → (slice_get new k ≡ Some (with_status Aborted c)) ⊎ (slice_get new k ≡ Some c)

pub may_abort : (top : WorkUnit → Bool) (old new : List Entry) → AbortsBelow top old new → MayAbort old new
may_abort top old new a k c at = ⊎_elim (λ h. inl h.2) (λ h. inr h.1) (a.each k c at)

-- what becomes of the first child
first_aborted : (Q : Entry → Type 0) (c d : Entry) → Q c → Q (with_status Aborted c) → (Some d ≡ Some (with_status Aborted c)) ⊎ (Some d ≡ Some c) → Q d
first_aborted Q c d same aborted (inl e) = subst Q (sym (same_Some d (with_status Aborted c) e)) aborted
first_aborted Q c d same aborted (inr e) = subst Q (sym (same_Some d c e)) same

pub each_aborted : (P : Entry → Type 0) → ((c : Entry) → P c → P (with_status Aborted c)) → (old new : List Entry) → length new ≡ length old → MayAbort old new → AllByRecursion P old → AllByRecursion P new
each_aborted P f [] [] l m h = tt
each_aborted P f [] (d ∷ ds) l m h = absurd (cc)
each_aborted P f (c ∷ cs) [] l m h = absurd (cc)
each_aborted P f (c ∷ cs) (d ∷ ds) l m h =
    let rest : length ds ≡ length cs = cc in
    (first_aborted P c d h.0 (f c h.0) (m 0 c refl), each_aborted P f cs ds rest (λ k x at. m (suc k) x at) h.1)

-- ---- what stays of own children

module _ {X : Type 0} (of : Entry → X) where
  pub kept_changed : (f : Entry → Entry) → ((c : Entry) → of (f c) ≡ of c) → (own : List Entry) (k : ℕ) → map of (change_at f own k) ≡ map of own
  kept_changed f same [] k = refl
  kept_changed f same (c ∷ cs) zero = λ i. same c i ∷ map of cs
  kept_changed f same (c ∷ cs) (suc k) = λ i. of c ∷ kept_changed f same cs k i

  pub kept_mapped : (f : Entry → Entry) → ((c : Entry) → of (f c) ≡ of c) → (own : List Entry) → map of (map f own) ≡ map of own
  kept_mapped f same [] = refl
  kept_mapped f same (c ∷ cs) = λ i. same c i ∷ kept_mapped f same cs i

  pub kept_aborted : ((c : Entry) → of (with_status Aborted c) ≡ of c) → (old new : List Entry) → length new ≡ length old → MayAbort old new → map of new ≡ map of old
  kept_aborted same [] [] l m = refl
  kept_aborted same [] (d ∷ ds) l m = absurd (cc)
  kept_aborted same (c ∷ cs) [] l m = absurd (cc)
  kept_aborted same (c ∷ cs) (d ∷ ds) l m =
      let first : of d ≡ of c = first_aborted (λ x. of x ≡ of c) c d refl (same c) (m 0 c refl) in
      let left : length ds ≡ length cs = cc in
      let rest : map of ds ≡ map of cs = kept_aborted same cs ds left (λ k x at. m (suc k) x at) in
      λ i. first i ∷ rest i

-- ---- guests

-- the guest with another status
abbrev pub guest_with : Status → GuestEntry → GuestEntry
guest_with status g = record { name = g.name; entry = with_status status g.entry }

pub guest_at : (P : GuestEntry → Type 0) (gs : List GuestEntry) (name : ChildName) (attempt : ℕ) (entry : Entry) → AllByRecursion P gs → guest_in gs name attempt ≡ Some entry
    → P (record { name = name; entry = entry }) × (entry.attempt ≡ attempt)
guest_at P [] name attempt entry h e = absurd (none-some entry e)
guest_at P (g ∷ gs) name attempt entry h e = go (is_guest name attempt g) refl e (λ e'. guest_at P gs name attempt entry h.1 e')
  where
    go : (b : Bool) → is_guest name attempt g ≡ b → cond b (Some g.entry) (guest_in gs name attempt) ≡ Some entry
        → (guest_in gs name attempt ≡ Some entry → P (record { name = name; entry = entry }) × (entry.attempt ≡ attempt))
        → P (record { name = name; entry = entry }) × (entry.attempt ≡ attempt)
    go true t e' later =
        let p = and_parts (same_name g.name name) (g.entry.attempt == attempt) t in
        let n : g.name ≡ name = name_path g.name name p.0 in
        let c : g.entry ≡ entry = same_Some g.entry entry e' in
        (subst P (λ i. record { name = n i; entry = c i }) h.0, ap (λ x. x.attempt) (sym c) ∙ eqb-true g.entry.attempt attempt p.1)
    go false t e' later = later e'

pub guests_changed : (P : GuestEntry → Type 0) (s : Status) → ((g : GuestEntry) → P g → P (guest_with s g)) → (gs : List GuestEntry) (name : ChildName) (attempt : ℕ) → AllByRecursion P gs → AllByRecursion P (change_guest (with_status s) gs name attempt)
guests_changed P s f [] name attempt h = tt
guests_changed P s f (g ∷ gs) name attempt h = go (is_guest name attempt g) (guests_changed P s f gs name attempt h.1)
  where
    go : (b : Bool) → AllByRecursion P (change_guest (with_status s) gs name attempt) → AllByRecursion P (cond b (guest_with s g ∷ gs) (g ∷ change_guest (with_status s) gs name attempt))
    go true later = (f g h.0, h.1)
    go false later = (h.0, later)

pub guests_dropped : (P : GuestEntry → Type 0) (known : List ℕ) → ((g : GuestEntry) → P g → P (guest_with Dropped g)) → (gs : List GuestEntry) → AllByRecursion P gs → AllByRecursion P (drop_lost known gs)
guests_dropped P known f [] h = tt
guests_dropped P known f (g ∷ gs) h = (go (is_older known g.name.site && is_open g.entry.status), guests_dropped P known f gs h.1)
  where
    go : (b : Bool) → P (drop_if b g)
    go true = f g h.0
    go false = h.0

-- ---- what stays of guests

pub keys_changed : (s : Status) (gs : List GuestEntry) (name : ChildName) (attempt : ℕ) → map guest_key (change_guest (with_status s) gs name attempt) ≡ map guest_key gs
keys_changed s [] name attempt = refl
keys_changed s (g ∷ gs) name attempt = go (is_guest name attempt g) (keys_changed s gs name attempt)
  where
    go : (b : Bool) → map guest_key (change_guest (with_status s) gs name attempt) ≡ map guest_key gs
        → map guest_key (cond b (guest_with s g ∷ gs) (g ∷ change_guest (with_status s) gs name attempt)) ≡ guest_key g ∷ map guest_key gs
    go true later = refl
    go false later = λ i. guest_key g ∷ later i

pub keys_dropped : (known : List ℕ) (gs : List GuestEntry) → map guest_key (drop_lost known gs) ≡ map guest_key gs
keys_dropped known [] = refl
keys_dropped known (g ∷ gs) = λ i. go (is_older known g.name.site && is_open g.entry.status) i ∷ keys_dropped known gs i
  where
    go : (b : Bool) → guest_key (drop_if b g) ≡ guest_key g
    go true = refl
    go false = refl

-- what holds of each, and what each passes
pub each_both : {X : Type 0} (P : X → Type 0) (test : X → Bool) (xs : List X) → AllByRecursion P xs → list_all test xs ≡ true → AllByRecursion (λ x. P x × (test x ≡ true)) xs
each_both P test [] h e = tt
each_both P test (x ∷ xs) h e = let p = and_parts (test x) (list_all test xs) e in ((h.0, p.0), each_both P test xs h.1 p.1)
