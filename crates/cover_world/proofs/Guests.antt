-- Lists of guests, looked up by name and attempt.
use Rattle.std.proofs.Common.{◌≡◌, ℕ, zero, suc, Bool, true, false, ◌&&◌, cond, ◌==◌, List, [], ◌∷◌, ◌++◌, Some, slice_get, refl, sym, ap, ◌∙◌, subst}
use Rattle.std.specs.List.{AllByRecursion}
use Rattle.std.proofs.lemmas.Option.{same_Some, none-some}
use Rattle.std.proofs.lemmas.Bool.{eqb-true, and_parts}
use Rattle.spawn_frame.specs.declared.site.ChildName.{ChildName}
use Rattle.spawn_frame.specs.declared.status.Status.{Status}
use Rattle.spawn_frame.specs.declared.status.Status.TheVariants.{Dropped}
use Rattle.spawn_frame.specs.Units.{Entry, GuestEntry, is_guest, guest_in, with_status, change_guest, insert_guest}
use Rattle.spawn_frame.specs.Names.{same_name, guest_before}
use Rattle.spawn_frame.specs.Aborts.{is_open}
use Rattle.steal_return.specs.Members.{drop_if, drop_lost}
use Rattle.steal_return.specs.Steals.{is_older}
use Rattle.spawn_frame.proofs.Sames.{name_path}

-- ---- equality of names

-- ---- what holds of each guest

abbrev pub Every : {X : Type 0} → (X → Type 0) → List X → Type 0
Every P xs = AllByRecursion P xs

pub every_append : {X : Type 0} (P : X → Type 0) (xs ys : List X) → Every P xs → Every P ys → Every P (xs ++ ys)
every_append P [] ys h k = k
every_append P (x ∷ xs) ys h k = (h.0, every_append P xs ys h.1 k)

pub every_at : {X : Type 0} (P : X → Type 0) (xs : List X) (k : ℕ) (x : X) → Every P xs → slice_get xs k ≡ Some x → P x
every_at P [] k x h e = absurd (none-some x e)
every_at P (y ∷ ys) zero x h e = subst P (same_Some y x e) h.0
every_at P (y ∷ ys) (suc k) x h e = every_at P ys k x h.1 e

pub every_map : {X : Type 0} (P Q : X → Type 0) (xs : List X) → ((x : X) → P x → Q x) → Every P xs → Every Q xs
every_map P Q [] f h = tt
every_map P Q (x ∷ xs) f h = (f x h.0, every_map P Q xs f h.1)

-- the guest that a name and an attempt stand for
pub record FoundGuest (P : GuestEntry → Type 0) (name : ChildName) (attempt : ℕ) (entry : Entry) : Type 0 where
  pub holds : P (record { name = name; entry = entry })
  pub attempt_is : entry.attempt ≡ attempt

pub every_guest : (P : GuestEntry → Type 0) (gs : List GuestEntry) (name : ChildName) (attempt : ℕ) (entry : Entry) → Every P gs → guest_in gs name attempt ≡ Some entry → FoundGuest P name attempt entry
every_guest P [] name attempt entry h e = absurd (none-some entry e)
every_guest P (g ∷ gs) name attempt entry h e = go (is_guest name attempt g) refl e (λ e'. every_guest P gs name attempt entry h.1 e')
  where
    go : (b : Bool) → is_guest name attempt g ≡ b → cond b (Some g.entry) (guest_in gs name attempt) ≡ Some entry
        → (guest_in gs name attempt ≡ Some entry → FoundGuest P name attempt entry) → FoundGuest P name attempt entry
    go true t e' later =
        let p = and_parts (same_name g.name name) (g.entry.attempt == attempt) t in
        let n : g.name ≡ name = name_path g.name name p.0 in
        let c : g.entry ≡ entry = same_Some g.entry entry e' in
        record {
          holds = subst P (λ i. record { name = n i; entry = c i }) h.0;
          attempt_is = ap (λ x. x.attempt) (sym c) ∙ eqb-true g.entry.attempt attempt p.1;
        }
    go false t e' later = later e'

-- one guest gets a status
pub every_changed : (P : GuestEntry → Type 0) (s : Status) (gs : List GuestEntry) (name : ChildName) (attempt : ℕ) (entry : Entry) → guest_in gs name attempt ≡ Some entry
    → (P (record { name = name; entry = entry }) → P (record { name = name; entry = with_status s entry }))
    → Every P gs → Every P (change_guest (with_status s) gs name attempt)
every_changed P s [] name attempt entry e f h = tt
every_changed P s (g ∷ gs) name attempt entry e f h = go (is_guest name attempt g) refl e (λ e'. every_changed P s gs name attempt entry e' f h.1)
  where
    go : (b : Bool) → is_guest name attempt g ≡ b → cond b (Some g.entry) (guest_in gs name attempt) ≡ Some entry
        → (guest_in gs name attempt ≡ Some entry → Every P (change_guest (with_status s) gs name attempt))
        → Every P (cond b (record { name = g.name; entry = with_status s g.entry } ∷ gs) (g ∷ change_guest (with_status s) gs name attempt))
    go true t e' later =
        let p = and_parts (same_name g.name name) (g.entry.attempt == attempt) t in
        let n : g.name ≡ name = name_path g.name name p.0 in
        let c : g.entry ≡ entry = same_Some g.entry entry e' in
        let was : P (record { name = name; entry = entry }) = subst P (λ i. record { name = n i; entry = c i }) h.0 in
        (subst P (λ i. record { name = sym n i; entry = with_status s (sym c i) }) (f was), h.1)
    go false t e' later = (h.0, later e')

pub every_inserted : (P : GuestEntry → Type 0) (new : GuestEntry) (gs : List GuestEntry) → P new → Every P gs → Every P (insert_guest new gs)
every_inserted P new [] p h = (p, tt)
every_inserted P new (g ∷ gs) p h = go (guest_before new.name new.entry.attempt g.name g.entry.attempt) (every_inserted P new gs p h.1)
  where
    go : (b : Bool) → Every P (insert_guest new gs) → Every P (cond b (new ∷ g ∷ gs) (g ∷ insert_guest new gs))
    go true later = (p, h)
    go false later = (h.0, later)

pub every_dropped : (P : GuestEntry → Type 0) (known : List ℕ) (gs : List GuestEntry) → ((g : GuestEntry) → P g → P (record { name = g.name; entry = with_status Dropped g.entry })) → Every P gs → Every P (drop_lost known gs)
every_dropped P known [] f h = tt
every_dropped P known (g ∷ gs) f h = (go (is_older known g.name.site && is_open g.entry.status), every_dropped P known gs f h.1)
  where
    go : (b : Bool) → P (drop_if b g)
    go true = f g h.0
    go false = h.0

-- the guest whose status was changed
pub changed_guest : (s : Status) (gs : List GuestEntry) (name : ChildName) (attempt : ℕ) (entry : Entry) → guest_in gs name attempt ≡ Some entry
    → guest_in (change_guest (with_status s) gs name attempt) name attempt ≡ Some (with_status s entry)
changed_guest s [] name attempt entry e = absurd (none-some entry e)
changed_guest s (g ∷ gs) name attempt entry e = go (is_guest name attempt g) refl e (λ e'. changed_guest s gs name attempt entry e')
  where
    go : (b : Bool) → is_guest name attempt g ≡ b → cond b (Some g.entry) (guest_in gs name attempt) ≡ Some entry
        → (guest_in gs name attempt ≡ Some entry → guest_in (change_guest (with_status s) gs name attempt) name attempt ≡ Some (with_status s entry))
        → guest_in (cond b (record { name = g.name; entry = with_status s g.entry } ∷ gs) (g ∷ change_guest (with_status s) gs name attempt)) name attempt ≡ Some (with_status s entry)
    go true t e' later = ap (λ b. cond b (Some (with_status s g.entry)) (guest_in gs name attempt)) t ∙ ap (λ c. Some (with_status s c)) (same_Some g.entry entry e')
    go false t e' later = ap (λ b. cond b (Some g.entry) (guest_in (change_guest (with_status s) gs name attempt) name attempt)) t ∙ later e'
