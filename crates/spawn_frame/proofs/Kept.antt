-- What is true of a table stays true where the work of a unit changes and frames see no difference.
use Rattle.std.proofs.Common.{◌≡◌, ℕ, zero, suc, ◌≤◌, Bool, true, false, cond, ◌&&◌, ◌==◌, List, [], ◌∷◌, map, length, Option, Some, None, is_some, IsSome, slice_get, refl, sym, ap, subst, ◌∙◌, ⊎_elim}
use Rattle.std.specs.List.{AllByRecursion}
use Rattle.std.proofs.lemmas.Option.{same_Some, none-some}
use Rattle.spawn_frame.specs.Names.{guest_before, same_name}
use Rattle.spawn_frame.specs.Prefixes.{AreGrown, link_of, origin_of}
use Rattle.spawn_frame.specs.Tables.{HasParents, IsAscending, guest_key}
use Rattle.spawn_frame.specs.Units.{Entry, GuestEntry, Table, guest_in, is_guest, unit_of}
use Rattle.spawn_frame.specs.Works.{IsUnit, IsTable, change_child, change_work, child_entry, entry_of, guest_entry, guest_work, table_of}
use Rattle.spawn_frame.specs.declared.child.Child.{Child}
use Rattle.spawn_frame.specs.declared.guest.Guest.{Guest}
use Rattle.spawn_frame.specs.declared.site.ChildName.{ChildName}
use Rattle.spawn_frame.specs.declared.site.Site.{Site}
use Rattle.spawn_frame.specs.declared.unit.Unit.{Unit as WorkUnit}
use Rattle.spawn_frame.specs.declared.unit.Unit.TheVariants as units
use Rattle.spawn_frame.specs.declared.work.Work.{Work}
use Rattle.spawn_frame.proofs.Briefs.{brief, briefs, same_frame}
use Rattle.spawn_frame.proofs.Grown.{links_kept, origins_kept}
use Rattle.spawn_frame.proofs.Lookups.{child_before, guest_with, with_work}

-- ---- own children of which frames see the same

-- the own child that stood at the place
pub record WasThere (old : List Entry) (k : ℕ) (new : Entry) : Type 0 where
  pub entry : Entry
  pub is : slice_get old k ≡ Some entry
  pub same : brief new ≡ brief entry

pub was_there : (old new : List Entry) → briefs new ≡ briefs old → (k : ℕ) (d : Entry) → slice_get new k ≡ Some d → WasThere old k d
was_there old [] e k d at = absurd (none-some d at)
was_there [] (y ∷ ys) e k d at = absurd (cc)
was_there (x ∷ xs) (y ∷ ys) e zero d at =
    let same : brief y ≡ brief x = cc in
    record { entry = x; is = refl; same = ap brief (sym (same_Some y d at)) ∙ same }
was_there (x ∷ xs) (y ∷ ys) e (suc k) d at =
    let rest : briefs ys ≡ briefs xs = cc in
    let w = was_there xs ys rest k d at in
    record { entry = w.entry; is = w.is; same = w.same }

pub still_there : (old new : List Entry) → briefs new ≡ briefs old → (k : ℕ) → is_some (slice_get new k) ≡ is_some (slice_get old k)
still_there [] [] e k = refl
still_there [] (y ∷ ys) e k = absurd (cc)
still_there (x ∷ xs) [] e k = absurd (cc)
still_there (x ∷ xs) (y ∷ ys) e zero = refl
still_there (x ∷ xs) (y ∷ ys) e (suc k) = let rest : briefs ys ≡ briefs xs = cc in still_there xs ys rest k

-- parents are there in a table with the same own children as far as frames see, and all units of the other
pub parents_kept : (old new : Table) → HasParents old → briefs new.own ≡ briefs old.own → ((unit : WorkUnit) → IsSome (unit_of old unit) → IsSome (unit_of new unit)) → HasParents new
parents_kept old new h e there = record {
  lower = λ k j c at p. let w = was_there old.own new.own e k c at in h.lower k j w.entry w.is (sym (ap (λ b. b.parent) w.same) ∙ p);
  there = λ k c unit at p. let w = was_there old.own new.own e k c at in there unit (h.there k w.entry unit w.is (sym (ap (λ b. b.parent) w.same) ∙ p));
}

pub child_briefs : (f : Work → Work) (own : List Child) (k : ℕ) (c : Child) → slice_get own k ≡ Some c → brief (entry_of c.parent (f c.work)) ≡ brief (child_entry c)
    → briefs (map child_entry (change_child f own k)) ≡ briefs (map child_entry own)
child_briefs f [] k c at e = refl
child_briefs f (x ∷ xs) zero c at e =
    let same : x ≡ c = same_Some x c at in
    ap (λ b. b ∷ briefs (map child_entry xs)) (ap (λ y. brief (entry_of y.parent (f y.work))) same ∙ e ∙ ap (λ y. brief (child_entry y)) (sym same))
child_briefs f (x ∷ xs) (suc k) c at e = ap (λ l. brief (child_entry x) ∷ l) (child_briefs f xs k c at e)

pub length_changed : (f : Work → Work) (own : List Child) (k : ℕ) → length (change_child f own k) ≡ length own
length_changed f [] k = refl
length_changed f (x ∷ xs) zero = refl
length_changed f (x ∷ xs) (suc k) = ap suc (length_changed f xs k)

-- ---- guests

pub guest_there : (f : Work → Work) → ((w : Work) → (f w).attempt ≡ w.attempt) → (gs : List Guest) (n m : ChildName) (a b : ℕ)
    → is_some (guest_in (map guest_entry (change_work f gs n a)) m b) ≡ is_some (guest_in (map guest_entry gs) m b)
guest_there f same [] n m a b = refl
guest_there f same (g ∷ gs) n m a b = go (is_guest n a (guest_entry g)) (guest_there f same gs n m a b)
  where
    either : (t : Bool) (x y : Entry) → (r s : Option Entry) → is_some r ≡ is_some s → is_some (cond t (Some x) r) ≡ is_some (cond t (Some y) s)
    either true x y r s e = refl
    either false x y r s e = e

    go : (t : Bool) → is_some (guest_in (map guest_entry (change_work f gs n a)) m b) ≡ is_some (guest_in (map guest_entry gs) m b)
        → is_some (guest_in (map guest_entry (cond t (guest_with f g ∷ gs) (g ∷ change_work f gs n a))) m b) ≡ is_some (guest_in (guest_entry g ∷ map guest_entry gs) m b)
    go true e =
        ap (λ k. is_some (cond (same_name g.name m && (k == b)) (Some (entry_of None (f g.work))) (guest_in (map guest_entry gs) m b))) (same g.work)
        ∙ either (is_guest m b (guest_entry g)) (entry_of None (f g.work)) (entry_of None g.work) (guest_in (map guest_entry gs) m b) (guest_in (map guest_entry gs) m b) refl
    go false e = either (is_guest m b (guest_entry g)) (entry_of None g.work) (entry_of None g.work) (guest_in (map guest_entry (change_work f gs n a)) m b) (guest_in (map guest_entry gs) m b) e

pub keys_kept : (f : Work → Work) → ((w : Work) → (f w).attempt ≡ w.attempt) → (gs : List Guest) (n : ChildName) (a : ℕ) → map guest_key (map guest_entry (change_work f gs n a)) ≡ map guest_key (map guest_entry gs)
keys_kept f same [] n a = refl
keys_kept f same (g ∷ gs) n a = go (is_guest n a (guest_entry g)) (keys_kept f same gs n a)
  where
    go : (t : Bool) → map guest_key (map guest_entry (change_work f gs n a)) ≡ map guest_key (map guest_entry gs)
        → map guest_key (map guest_entry (cond t (guest_with f g ∷ gs) (g ∷ change_work f gs n a))) ≡ map guest_key (guest_entry g ∷ map guest_entry gs)
    go true e = ap (λ k. (g.name, k) ∷ map guest_key (map guest_entry gs)) (same g.work)
    go false e = ap (λ l. guest_key (guest_entry g) ∷ l) e

abbrev key_before : (ChildName × ℕ) → (ChildName × ℕ) → Bool
key_before p q = guest_before p.0 p.1 q.0 q.1

before_keys : (g h : GuestEntry) → guest_key h ≡ guest_key g → (gs hs : List GuestEntry) → map guest_key hs ≡ map guest_key gs
    → AllByRecursion (λ x. guest_before g.name g.entry.attempt x.name x.entry.attempt ≡ true) gs → AllByRecursion (λ x. guest_before h.name h.entry.attempt x.name x.entry.attempt ≡ true) hs
before_keys g h e gs [] k p = tt
before_keys g h e [] (y ∷ ys) k p = absurd (cc)
before_keys g h e (x ∷ xs) (y ∷ ys) k p =
    let first : guest_key y ≡ guest_key x = cc in
    let rest : map guest_key ys ≡ map guest_key xs = cc in
    (ap (λ q. key_before q (guest_key y)) e ∙ ap (key_before (guest_key g)) first ∙ p.0, before_keys g h e xs ys rest p.1)

pub ascending_kept : (gs hs : List GuestEntry) → map guest_key hs ≡ map guest_key gs → IsAscending gs → IsAscending hs
ascending_kept gs [] k p = tt
ascending_kept [] (y ∷ ys) k p = absurd (cc)
ascending_kept (x ∷ xs) (y ∷ ys) k p =
    let first : guest_key y ≡ guest_key x = cc in
    let rest : map guest_key ys ≡ map guest_key xs = cc in
    (before_keys x y first xs ys rest p.0, ascending_kept xs ys rest p.1)

-- what holds of each guest, where one is changed
pub each_changed : (P : Guest → Type 0) (f : Work → Work) (gs : List Guest) (n : ChildName) (a : ℕ) (w : Work) → guest_work gs n a ≡ Some w
    → ((g : Guest) → g.work ≡ w → P g → P (guest_with f g)) → AllByRecursion P gs → AllByRecursion P (change_work f gs n a)
each_changed P f [] n a w at h p = tt
each_changed P f (g ∷ gs) n a w at h p = go (is_guest n a (guest_entry g)) at (λ e. each_changed P f gs n a w e h p.1)
  where
    go : (t : Bool) → cond t (Some g.work) (guest_work gs n a) ≡ Some w → (guest_work gs n a ≡ Some w → AllByRecursion P (change_work f gs n a))
        → AllByRecursion P (cond t (guest_with f g ∷ gs) (g ∷ change_work f gs n a))
    go true e later = (h g (same_Some g.work w e) p.0, p.1)
    go false e later = (p.0, later e)

pub each_weaker : (P Q : Guest → Type 0) → ((g : Guest) → P g → Q g) → (gs : List Guest) → AllByRecursion P gs → AllByRecursion Q gs
each_weaker P Q f [] p = tt
each_weaker P Q f (g ∷ gs) p = (f g p.0, each_weaker P Q f gs p.1)

-- ---- tables

module _ (site : Site) (limit : ℕ) (own : List Child) (guests : List Guest) (is_table : IsTable (table_of site limit own guests) own guests) where
  pub own_kept : (f : Work → Work) → ((w : Work) → (f w).path ≡ w.path) → (k : ℕ) (c : Child) → slice_get own k ≡ Some c → (IsUnit (units.Own k) c.work (map child_entry own) → IsUnit (units.Own k) (f c.work) (map child_entry own))
      → brief (entry_of c.parent (f c.work)) ≡ brief (child_entry c) → IsTable (table_of site limit (change_child f own k) guests) (change_child f own k) guests
  own_kept f path k c at frame same =
      let e : briefs (map child_entry (change_child f own k)) ≡ briefs (map child_entry own) = child_briefs f own k c at same in
      let old = map child_entry own in
      let new = map child_entry (change_child f own k) in
      record {
        small = is_table.small;
        names = subst (λ n. n ≤ limit) (sym (length_changed f own k)) is_table.names;
        ascending = is_table.ascending;
        parents = parents_kept (table_of site limit own guests) (table_of site limit (change_child f own k) guests) is_table.parents e there;
        grown = subst (λ l. AreGrown l (map origin_of guests)) (sym (links_kept f path own k)) is_table.grown;
        own_units = λ j d at'. let b = child_before f own k j d at' in
            ⊎_elim
            (λ (h : (j ≡ k) × (d ≡ with_work f b.child)).
            let one : b.child ≡ c = same_Some b.child c (sym b.is ∙ ap (slice_get own) h.0 ∙ at) in
            same_frame (units.Own j) d.work old new e
            (subst (λ x. IsUnit (units.Own j) x.work old) (sym h.1)
            (subst (λ x. IsUnit (units.Own j) (f x.work) old) (sym one)
            (subst (λ i. IsUnit (units.Own i) (f c.work) old) (sym h.0) (frame (is_table.own_units k c at))))))
            (λ (h : (j ≡ k → ⊥) × (d ≡ b.child)).
            same_frame (units.Own j) d.work old new e (subst (λ x. IsUnit (units.Own j) x.work old) (sym h.1) (is_table.own_units j b.child b.is)))
            b.became;
        guest_units = each_weaker (λ g. IsUnit (units.Guest g.name g.work.attempt) g.work old) (λ g. IsUnit (units.Guest g.name g.work.attempt) g.work new)
            (λ g h. same_frame (units.Guest g.name g.work.attempt) g.work old new e h) guests is_table.guest_units;
      }
    where
      there : (unit : WorkUnit) → IsSome (unit_of (table_of site limit own guests) unit) → IsSome (unit_of (table_of site limit (change_child f own k) guests) unit)
      there (units.Own j) h = still_there (map child_entry own) (map child_entry (change_child f own k)) (child_briefs f own k c at same) j ∙ h
      there (units.Guest n a) h = h

  pub guests_kept : (f : Work → Work) → ((w : Work) → (f w).attempt ≡ w.attempt) → ((w : Work) → (f w).path ≡ w.path) → (n : ChildName) (a : ℕ) (w : Work) → guest_work guests n a ≡ Some w
      → ((m : ChildName) (b : ℕ) → IsUnit (units.Guest m b) w (map child_entry own) → IsUnit (units.Guest m b) (f w) (map child_entry own)) → IsTable (table_of site limit own (change_work f guests n a)) own (change_work f guests n a)
  guests_kept f same path n a w at frame = record {
    small = is_table.small;
    names = is_table.names;
    ascending = ascending_kept (map guest_entry guests) (map guest_entry (change_work f guests n a)) (keys_kept f same guests n a) is_table.ascending;
    parents = parents_kept (table_of site limit own guests) (table_of site limit own (change_work f guests n a)) is_table.parents refl there;
    grown = subst (λ l. AreGrown (map link_of own) l) (sym (origins_kept f path same guests n a)) is_table.grown;
    own_units = is_table.own_units;
    guest_units = each_changed (λ g. IsUnit (units.Guest g.name g.work.attempt) g.work (map child_entry own)) f guests n a w at changed is_table.guest_units;
  }
    where
      there : (unit : WorkUnit) → IsSome (unit_of (table_of site limit own guests) unit) → IsSome (unit_of (table_of site limit own (change_work f guests n a)) unit)
      there (units.Own j) h = h
      there (units.Guest m b) h = guest_there f same guests n m a b ∙ h

      changed : (g : Guest) → g.work ≡ w → IsUnit (units.Guest g.name g.work.attempt) g.work (map child_entry own) → IsUnit (units.Guest g.name (f g.work).attempt) (f g.work) (map child_entry own)
      changed g e h =
          subst (λ b. IsUnit (units.Guest g.name b) (f g.work) (map child_entry own)) (sym (same g.work))
          (subst (λ x. IsUnit (units.Guest g.name g.work.attempt) (f x) (map child_entry own)) (sym e)
          (frame g.name g.work.attempt (subst (λ x. IsUnit (units.Guest g.name g.work.attempt) x (map child_entry own)) e h)))
