-- Units whose work is changed, looked up.
use Rattle.std.proofs.Common.{◌≡◌, ◌⊎◌, ℕ, zero, suc, Bool, true, false, cond, List, [], ◌∷◌, map, Option, Some, None, slice_get, refl, sym, ap, ◌∙◌, inl, inr, ⊎_elim, option_map, arith}
use Rattle.std.proofs.lemmas.Option.{same_Some, none-some}
use Rattle.spawn_frame.specs.Tables.{parent_in}
use Rattle.spawn_frame.specs.Units.{Entry, change_at, change_guest, guest_in, is_guest}
use Rattle.spawn_frame.specs.Works.{change_child, change_work, child_entry, entry_of, guest_entry, guest_work}
use Rattle.spawn_frame.specs.declared.child.Child.{Child}
use Rattle.spawn_frame.specs.declared.guest.Guest.{Guest}
use Rattle.spawn_frame.specs.declared.site.ChildName.{ChildName}
use Rattle.spawn_frame.specs.declared.unit.Unit.{Unit as WorkUnit}
use Rattle.spawn_frame.specs.declared.work.Work.{Work}

-- the child with other work
abbrev pub with_work : (Work → Work) → Child → Child
with_work f c = record { parent = c.parent; option = c.option; work = f c.work }

-- the guest with other work
abbrev pub guest_with : (Work → Work) → Guest → Guest
guest_with f g = record { name = g.name; prefix = g.prefix; work = f g.work }

-- a change of work as the site sees it
pub child_view : (f : Work → Work) (g : Entry → Entry) → ((parent : Option WorkUnit) (w : Work) → entry_of parent (f w) ≡ g (entry_of parent w))
    → (own : List Child) (k : ℕ) → map child_entry (change_child f own k) ≡ change_at g (map child_entry own) k
child_view f g e [] k = refl
child_view f g e (c ∷ cs) zero = ap (λ d. d ∷ map child_entry cs) (e c.parent c.work)
child_view f g e (c ∷ cs) (suc k) = ap (λ l. child_entry c ∷ l) (child_view f g e cs k)

pub guest_view : (f : Work → Work) (g : Entry → Entry) → ((parent : Option WorkUnit) (w : Work) → entry_of parent (f w) ≡ g (entry_of parent w))
    → (gs : List Guest) (name : ChildName) (attempt : ℕ) → map guest_entry (change_work f gs name attempt) ≡ change_guest g (map guest_entry gs) name attempt
guest_view f g e [] name attempt = refl
guest_view f g e (h ∷ hs) name attempt = go (is_guest name attempt (guest_entry h)) (guest_view f g e hs name attempt)
  where
    go : (b : Bool) → map guest_entry (change_work f hs name attempt) ≡ change_guest g (map guest_entry hs) name attempt
        → map guest_entry (cond b (guest_with f h ∷ hs) (h ∷ change_work f hs name attempt))
        ≡ cond b (record { name = h.name; entry = g (guest_entry h).entry } ∷ map guest_entry hs) (guest_entry h ∷ change_guest g (map guest_entry hs) name attempt)
    go true q = ap (λ x. record { name = h.name; entry = x } ∷ map guest_entry hs) (e None h.work)
    go false q = ap (λ l. guest_entry h ∷ l) q

-- the child that stands at j once the work of the child at k is changed
pub record ChildBefore (f : Work → Work) (own : List Child) (k j : ℕ) (d : Child) : Type 0 where
  pub child : Child
  pub is : slice_get own j ≡ Some child
  pub became : ((j ≡ k) × (d ≡ with_work f child)) ⊎ ((j ≡ k → ⊥) × (d ≡ child))

pub child_before : (f : Work → Work) (own : List Child) (k j : ℕ) (d : Child) → slice_get (change_child f own k) j ≡ Some d → ChildBefore f own k j d
child_before f [] k j d at = absurd (none-some d at)
child_before f (c ∷ cs) zero zero d at = record { child = c; is = refl; became = inl (refl, sym (same_Some (with_work f c) d at)) }
child_before f (c ∷ cs) zero (suc j) d at = record { child = d; is = at; became = inr ((λ e. cc), refl) }
child_before f (c ∷ cs) (suc k) zero d at = record { child = c; is = refl; became = inr ((λ e. cc), sym (same_Some c d at)) }
child_before f (c ∷ cs) (suc k) (suc j) d at =
    let b = child_before f cs k j d at in
    record {
      child = b.child;
      is = b.is;
      became = ⊎_elim
          (λ (h : (j ≡ k) × (d ≡ with_work f b.child)). inl (ap suc h.0, h.1))
          (λ (h : (j ≡ k → ⊥) × (d ≡ b.child)). inr ((λ e. h.0 (omega arith)), h.1))
          b.became;
    }

-- a guest's work as its site sees it
pub guest_at : (gs : List Guest) (name : ChildName) (attempt : ℕ) → guest_in (map guest_entry gs) name attempt ≡ option_map (λ w. entry_of None w) (guest_work gs name attempt)
guest_at [] name attempt = refl
guest_at (g ∷ gs) name attempt = go (is_guest name attempt (guest_entry g)) (guest_at gs name attempt)
  where
    go : (b : Bool) → guest_in (map guest_entry gs) name attempt ≡ option_map (λ w. entry_of None w) (guest_work gs name attempt)
        → cond b (Some (guest_entry g).entry) (guest_in (map guest_entry gs) name attempt) ≡ option_map (λ w. entry_of None w) (cond b (Some g.work) (guest_work gs name attempt))
    go true e = refl
    go false e = e

-- a guest has no parent
pub no_parent : (gs : List Guest) (name : ChildName) (attempt : ℕ) → parent_in (guest_in (map guest_entry gs) name attempt) ≡ None
no_parent gs name attempt = ap parent_in (guest_at gs name attempt) ∙ go (guest_work gs name attempt)
  where
    go : (o : Option Work) → parent_in (option_map (λ w. entry_of None w) o) ≡ None
    go None = refl
    go (Some w) = refl
