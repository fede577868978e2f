-- A new guest at its place in the order.
use Rattle.std.proofs.Common.{◌≡◌, ℕ, suc, ◌+◌, ◌≤◌, Bool, true, false, cond, not, ◌==◌, List, [], ◌∷◌, ◌++◌, map, insert, option_map, Option, Some, None, is_some, IsSome, slice_get, refl, sym, ap, subst, ◌∙◌, ⊎_elim, arith}
use Rattle.std.specs.List.{AllByRecursion, position_or_len}
use Rattle.std.proofs.lemmas.Option.{none-some, slice_get-map}
use Rattle.std.proofs.lemmas.Bool.{and_from, and_parts, both_ways, cond-false, eq-eqb, eqb-true, false≢true, false_from_ne_true, or_cases, true≢false}
use Rattle.spawn_frame.specs.Frames.{is_unit}
use Rattle.spawn_frame.specs.Guests.{put_guest}
use Rattle.spawn_frame.specs.Names.{guest_before, same_name}
use Rattle.spawn_frame.specs.Prefixes.{AreGrown, Link, link_of, origin_of, origin_path, path_among}
use Rattle.spawn_frame.specs.Tables.{HasParents, IsAscending}
use Rattle.spawn_frame.specs.Units.{Entry, GuestEntry, Table, guest_in, insert_guest, is_guest, unit_of}
use Rattle.spawn_frame.specs.Works.{IsUnit, IsTable, child_entry, fresh_guest, guest_entry, has_child, table_of}
use Rattle.spawn_frame.specs.declared.child.Child.{Child}
use Rattle.spawn_frame.specs.declared.guest.Guest.{Guest}
use Rattle.spawn_frame.specs.declared.site.ChildName.{ChildName}
use Rattle.spawn_frame.specs.declared.site.Site.{Site}
use Rattle.spawn_frame.specs.declared.unit.Unit.{Unit as WorkUnit}
use Rattle.spawn_frame.specs.declared.unit.Unit.TheVariants as units
use Rattle.spawn_frame.proofs.Grown.{each_guest, each_origin, link_at}
use Rattle.spawn_frame.proofs.Parents.{no_children}
use Rattle.spawn_frame.proofs.Orders.{before_on, before_or_same}
use Rattle.spawn_frame.proofs.Sames.{name_path, parent_path, same_name_self}

pub put_is : (new : Guest) (gs : List Guest) → insert gs (position_or_len (λ g. guest_before new.name new.work.attempt g.name g.work.attempt) gs) new ≡ put_guest new gs
put_is new [] = refl
put_is new (g ∷ gs) = go (guest_before new.name new.work.attempt g.name g.work.attempt) (put_is new gs)
  where
    go : (b : Bool) → insert gs (position_or_len (λ x. guest_before new.name new.work.attempt x.name x.work.attempt) gs) new ≡ put_guest new gs
        → insert (g ∷ gs) (cond (not b) (1 + position_or_len (λ x. guest_before new.name new.work.attempt x.name x.work.attempt) gs) 0) new ≡ cond b (new ∷ g ∷ gs) (g ∷ put_guest new gs)
    go true e = refl
    go false e =
        let n : ℕ = position_or_len (λ x. guest_before new.name new.work.attempt x.name x.work.attempt) gs in
        let next : 1 + n ≡ suc n = omega arith in
        ap (λ k. insert (g ∷ gs) k new) next ∙ ap (λ l. g ∷ l) e

pub put_view : (new : Guest) (gs : List Guest) → map guest_entry (put_guest new gs) ≡ insert_guest (guest_entry new) (map guest_entry gs)
put_view new [] = refl
put_view new (g ∷ gs) = go (guest_before new.name new.work.attempt g.name g.work.attempt) (put_view new gs)
  where
    go : (b : Bool) → map guest_entry (put_guest new gs) ≡ insert_guest (guest_entry new) (map guest_entry gs)
        → map guest_entry (cond b (new ∷ g ∷ gs) (g ∷ put_guest new gs)) ≡ cond b (guest_entry new ∷ guest_entry g ∷ map guest_entry gs) (guest_entry g ∷ insert_guest (guest_entry new) (map guest_entry gs))
    go true e = refl
    go false e = ap (λ l. guest_entry g ∷ l) e

pub each_put : (P : Guest → Type 0) (new : Guest) (gs : List Guest) → P new → AllByRecursion P gs → AllByRecursion P (put_guest new gs)
each_put P new [] p h = (p, tt)
each_put P new (g ∷ gs) p h = go (guest_before new.name new.work.attempt g.name g.work.attempt) (each_put P new gs p h.1)
  where
    go : (b : Bool) → AllByRecursion P (put_guest new gs) → AllByRecursion P (cond b (new ∷ g ∷ gs) (g ∷ put_guest new gs))
    go true later = (p, h)
    go false later = (h.0, later)

-- ---- the order

pub each_inserted : (P : GuestEntry → Type 0) (new : GuestEntry) (gs : List GuestEntry) → P new → AllByRecursion P gs → AllByRecursion P (insert_guest new gs)
each_inserted P new [] p h = (p, tt)
each_inserted P new (g ∷ gs) p h = go (guest_before new.name new.entry.attempt g.name g.entry.attempt) (each_inserted P new gs p h.1)
  where
    go : (b : Bool) → AllByRecursion P (insert_guest new gs) → AllByRecursion P (cond b (new ∷ g ∷ gs) (g ∷ insert_guest new gs))
    go true later = (p, h)
    go false later = (h.0, later)

before_rest : (new g : GuestEntry) → guest_before new.name new.entry.attempt g.name g.entry.attempt ≡ true → (gs : List GuestEntry)
    → AllByRecursion (λ x. guest_before g.name g.entry.attempt x.name x.entry.attempt ≡ true) gs → AllByRecursion (λ x. guest_before new.name new.entry.attempt x.name x.entry.attempt ≡ true) gs
before_rest new g t [] h = tt
before_rest new g t (x ∷ xs) h = (before_on new.name g.name x.name new.entry.attempt g.entry.attempt x.entry.attempt t h.0, before_rest new g t xs h.1)

-- what a list without a guest says of its first
first_another : (n : ChildName) (a : ℕ) (g : GuestEntry) (gs : List GuestEntry) → guest_in (g ∷ gs) n a ≡ None → (is_guest n a g ≡ false) × (guest_in gs n a ≡ None)
first_another n a g gs e = go (is_guest n a g) refl e
  where
    go : (b : Bool) → is_guest n a g ≡ b → cond b (Some g.entry) (guest_in gs n a) ≡ None → (is_guest n a g ≡ false) × (guest_in gs n a ≡ None)
    go true t q = absurd (none-some g.entry (sym q))
    go false t q = (t, q)

pub ascending_inserted : (new : GuestEntry) (gs : List GuestEntry) → guest_in gs new.name new.entry.attempt ≡ None → IsAscending gs → IsAscending (insert_guest new gs)
ascending_inserted new [] e h = (tt, tt)
ascending_inserted new (g ∷ gs) e h =
    let other = first_another new.name new.entry.attempt g gs e in
    go (guest_before new.name new.entry.attempt g.name g.entry.attempt) refl other.0 (ascending_inserted new gs other.1 h.1)
  where
    go : (b : Bool) → guest_before new.name new.entry.attempt g.name g.entry.attempt ≡ b → is_guest new.name new.entry.attempt g ≡ false → IsAscending (insert_guest new gs)
        → IsAscending (cond b (new ∷ g ∷ gs) (g ∷ insert_guest new gs))
    go true t d later = ((t, before_rest new g t gs h.0), h)
    go false t d later = (each_inserted (λ x. guest_before g.name g.entry.attempt x.name x.entry.attempt ≡ true) new gs before h.0, later)
      where
        before : guest_before g.name g.entry.attempt new.name new.entry.attempt ≡ true
        before = ⊎_elim
            (λ (u : guest_before g.name g.entry.attempt new.name new.entry.attempt ≡ true). u)
            (λ (s : (new.name ≡ g.name) × (new.entry.attempt ≡ g.entry.attempt)).
            absurd (both_ways (is_guest new.name new.entry.attempt g) d
            (and_from (same_name g.name new.name) (g.entry.attempt == new.entry.attempt) (ap (same_name g.name) s.0 ∙ same_name_self g.name) (eq-eqb g.entry.attempt new.entry.attempt (sym s.1)))))
            (before_or_same new.name g.name new.entry.attempt g.entry.attempt t)

pub there_inserted : (new : GuestEntry) (gs : List GuestEntry) (m : ChildName) (b : ℕ) → IsSome (guest_in gs m b) → IsSome (guest_in (insert_guest new gs) m b)
there_inserted new [] m b h = absurd (false≢true h)
there_inserted new (g ∷ gs) m b h = go (guest_before new.name new.entry.attempt g.name g.entry.attempt) (λ i. there_inserted new gs m b i)
  where
    either : (t : Bool) (x : Entry) (o : Option Entry) → IsSome o → IsSome (cond t (Some x) o)
    either true x o i = refl
    either false x o i = i

    behind : (t : Bool) (x : Entry) → IsSome (cond t (Some x) (guest_in gs m b)) → (IsSome (guest_in gs m b) → IsSome (guest_in (insert_guest new gs) m b)) → IsSome (cond t (Some x) (guest_in (insert_guest new gs) m b))
    behind true x i f = refl
    behind false x i f = f i

    go : (t : Bool) → (IsSome (guest_in gs m b) → IsSome (guest_in (insert_guest new gs) m b)) → IsSome (guest_in (cond t (new ∷ g ∷ gs) (g ∷ insert_guest new gs)) m b)
    go true later = either (is_guest m b new) new.entry (guest_in (g ∷ gs) m b) h
    go false later = behind (is_guest m b g) g.entry h later

-- ---- a unit that is not there has no children

pub record FindsChild (unit : WorkUnit) (es : List Entry) : Type 0 where
  pub place : ℕ
  pub entry : Entry
  pub is : slice_get es place ≡ Some entry
  pub child : is_unit entry.parent unit ≡ true

pub find_child : (unit : WorkUnit) (es : List Entry) → has_child unit es ≡ true → FindsChild unit es
find_child unit [] h = absurd (false≢true h)
find_child unit (c ∷ cs) h = ⊎_elim
    (λ (t : is_unit c.parent unit ≡ true). record { place = 0; entry = c; is = refl; child = t })
    (λ (t : has_child unit cs ≡ true). let f = find_child unit cs t in record { place = suc f.place; entry = f.entry; is = f.is; child = f.child })
    (or_cases (is_unit c.parent unit) (has_child unit cs) h)

pub none_there : (table : Table) (unit : WorkUnit) → HasParents table → unit_of table unit ≡ None → has_child unit table.own ≡ false
none_there table unit h e = false_from_ne_true (has_child unit table.own) (λ t.
    let f = find_child unit table.own t in
    true≢false (sym (h.there f.place f.entry unit f.is (parent_path f.entry.parent unit f.child)) ∙ ap is_some e))

-- ---- prefixes

-- a guest of another name or attempt than the new one keeps its path
put_path : (new : Guest) (gs : List Guest) (n : ChildName) (a : ℕ) → is_guest n a (guest_entry new) ≡ false → origin_path (map origin_of (put_guest new gs)) n a ≡ origin_path (map origin_of gs) n a
put_path new [] n a other = cond-false (is_guest n a (guest_entry new)) new.work.path.options [] other
put_path new (g ∷ gs) n a other = go (guest_before new.name new.work.attempt g.name g.work.attempt) (put_path new gs n a other)
  where
    go : (b : Bool) → origin_path (map origin_of (put_guest new gs)) n a ≡ origin_path (map origin_of gs) n a
        → origin_path (map origin_of (cond b (new ∷ g ∷ gs) (g ∷ put_guest new gs))) n a ≡ origin_path (map origin_of (g ∷ gs)) n a
    go true e = cond-false (is_guest n a (guest_entry new)) new.work.path.options (origin_path (map origin_of (g ∷ gs)) n a) other
    go false e = ap (cond (is_guest n a (guest_entry g)) g.work.path.options) e

-- a guest that is there is another than the new one
there_other : (new : Guest) (gs : List Guest) (n : ChildName) (a : ℕ) → guest_in (map guest_entry gs) new.name new.work.attempt ≡ None → IsSome (guest_in (map guest_entry gs) n a) → is_guest n a (guest_entry new) ≡ false
there_other new gs n a absent there = false_from_ne_true (is_guest n a (guest_entry new)) (λ t.
    let parts = and_parts (same_name new.name n) (new.work.attempt == a) t in
    let name : new.name ≡ n = name_path new.name n parts.0 in
    let attempt : new.work.attempt ≡ a = eqb-true new.work.attempt a parts.1 in
    true≢false (sym there ∙ ap is_some ((λ i. guest_in (map guest_entry gs) (sym name i) (sym attempt i)) ∙ absent)))

put_grown : (site : Site) (limit : ℕ) (own : List Child) (guests : List Guest) → IsTable (table_of site limit own guests) own guests → (new : Guest)
    → guest_in (map guest_entry guests) new.name new.work.attempt ≡ None → new.prefix ≡ new.work.path.options → AreGrown (map link_of own) (map origin_of (put_guest new guests))
put_grown site limit own guests h new absent is = record {
  root = h.grown.root;
  grown = λ k link unit at p. h.grown.grown k link unit at p ∙ ap (λ l. l ++ link.option ∷ []) (sym (path k link unit at p));
  lower = h.grown.lower;
  whole = each_origin (put_guest new guests) (each_put (λ g. g.prefix ≡ g.work.path.options) new guests is (each_guest guests h.grown.whole));
}
  where
    path : (k : ℕ) (link : Link) (unit : WorkUnit) → slice_get (map link_of own) k ≡ Some link → link.parent ≡ Some unit
        → path_among (map link_of own) (map origin_of (put_guest new guests)) unit ≡ path_among (map link_of own) (map origin_of guests) unit
    path k link (units.Own j) at p = refl
    path k link (units.Guest n a) at p =
        let c = link_at own k link at in
        put_path new guests n a (there_other new guests n a absent
        (h.parents.there k (child_entry c.child) (units.Guest n a) (slice_get-map child_entry own k ∙ ap (option_map child_entry) c.is) (ap (λ l. l.parent) c.same ∙ p)))

-- ---- the table

pub put_kept : (site : Site) (limit : ℕ) (own : List Child) (guests : List Guest) → IsTable (table_of site limit own guests) own guests → (name : ChildName) (attempt : ℕ) (prefix : List ℕ)
    → guest_in (map guest_entry guests) name attempt ≡ None → 1 ≤ attempt → IsTable (table_of site limit own (put_guest (fresh_guest name attempt prefix) guests)) own (put_guest (fresh_guest name attempt prefix) guests)
put_kept site limit own guests h name attempt prefix absent from =
    let new = fresh_guest name attempt prefix in
    let view = put_view new guests in
    record {
      small = h.small;
      names = h.names;
      ascending = subst IsAscending (sym view) (ascending_inserted (guest_entry new) (map guest_entry guests) absent h.ascending);
      grown = put_grown site limit own guests h new absent refl;
      parents = record { lower = h.parents.lower; there = λ k c unit at p. there unit (h.parents.there k c unit at p) };
      own_units = h.own_units;
      guest_units = each_put (λ g. IsUnit (units.Guest g.name g.work.attempt) g.work (map child_entry own)) new guests
          (record { attempt = from; status = refl; whole = λ t. none_there (table_of site limit own guests) (units.Guest name attempt) h.parents absent; split = λ s. absurd (cc); children = no_children (units.Guest name attempt) (map child_entry own) 0 (none_there (table_of site limit own guests) (units.Guest name attempt) h.parents absent) }) h.guest_units;
    }
  where
    there : (unit : WorkUnit) → IsSome (unit_of (table_of site limit own guests) unit) → IsSome (unit_of (table_of site limit own (put_guest (fresh_guest name attempt prefix) guests)) unit)
    there (units.Own j) i = i
    there (units.Guest m b) i =
        subst (λ l. IsSome (guest_in l m b)) (sym (put_view (fresh_guest name attempt prefix) guests)) (there_inserted (guest_entry (fresh_guest name attempt prefix)) (map guest_entry guests) m b i)
