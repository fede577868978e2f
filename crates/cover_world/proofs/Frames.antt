-- The prefixes of a unit's children, by which its frame is known whatever the children's statuses are.
use Rattle.std.proofs.Common.{◌≡◌, ◌≢◌, ◌⊎◌, ℕ, zero, suc, Bool, true, false, cond, ◌==◌, ◌&&◌, List, [], ◌∷◌, ◌++◌, map, length, Option, Some, None, slice_get, refl, sym, ap, ◌∙◌, inl, inr, ⊎_elim}
use Rattle.std.proofs.lemmas.Option.{same_Some, none-some}
use Rattle.std.proofs.lemmas.Bool.{eqb-true, eqb-false, eq-eqb, true≢false, and_parts, and_from}
use Rattle.spawn_frame.specs.declared.site.ChildName.{ChildName}
use Rattle.spawn_frame.specs.declared.unit.Unit.{Unit as WorkUnit}
use Rattle.spawn_frame.specs.declared.unit.Unit.TheVariants.{Own, Guest}
use Rattle.spawn_frame.specs.declared.status.Status.{Status}
use Rattle.spawn_frame.specs.declared.status.Status.TheVariants.{Dropped}
use Rattle.spawn_frame.specs.Units.{Entry, GuestEntry, is_guest, guest_in, with_status, change_at, change_guest, insert_guest}
use Rattle.node_core.specs.SiteView.{View, unit_in, unit_gets}
use Rattle.spawn_frame.specs.Frames.{is_unit, frame}
use Rattle.spawn_frame.specs.Names.{same_unit, same_name, guest_before}
use Rattle.spawn_frame.specs.Aborts.{is_open}
use Rattle.spawn_frame.specs.Splits.{new_child}
use Rattle.cover_world.proofs.Grows.{get_changed}
use Rattle.cover_world.proofs.Guests.{changed_guest}
use Rattle.steal_return.specs.Members.{drop_if, drop_lost}
use Rattle.steal_return.specs.Steals.{is_older}
use Rattle.spawn_frame.proofs.Sames.{parent_self, name_path, same_name_self}

-- ---- shapes

abbrev pub Shape : Type 0
Shape = Option WorkUnit × List ℕ

abbrev pub shape : Entry → Shape
shape c = (c.parent, c.prefix)

abbrev pub shapes : List Entry → List Shape
shapes own = map (λ c. shape c) own

-- the prefixes of the unit's children
abbrev pub prefixes : WorkUnit → List Entry → List (List ℕ)
prefixes unit own = map (λ c. c.prefix) (frame unit own)

shape_prefixes : WorkUnit → List Shape → List (List ℕ)
shape_prefixes unit [] = []
shape_prefixes unit (s ∷ ss) = cond (is_unit s.0 unit) (s.1 ∷ shape_prefixes unit ss) (shape_prefixes unit ss)

prefixes_shape : (unit : WorkUnit) (own : List Entry) → prefixes unit own ≡ shape_prefixes unit (shapes own)
unfolding shape_prefixes
prefixes_shape unit [] = refl
prefixes_shape unit (c ∷ cs) = go (is_unit c.parent unit) (prefixes_shape unit cs)
  where
    go : (b : Bool) → prefixes unit cs ≡ shape_prefixes unit (shapes cs) → map (λ c. c.prefix) (cond b (c ∷ frame unit cs) (frame unit cs)) ≡ cond b (c.prefix ∷ shape_prefixes unit (shapes cs)) (shape_prefixes unit (shapes cs))
    go true e = ap (λ l. c.prefix ∷ l) e
    go false e = e

pub same_prefixes : (unit : WorkUnit) (old new : List Entry) → shapes new ≡ shapes old → prefixes unit new ≡ prefixes unit old
same_prefixes unit old new e = prefixes_shape unit new ∙ ap (shape_prefixes unit) e ∙ sym (prefixes_shape unit old)

pub changed_shapes : (f : Entry → Entry) → ((c : Entry) → shape (f c) ≡ shape c) → (own : List Entry) (k : ℕ) → shapes (change_at f own k) ≡ shapes own
changed_shapes f same [] k = refl
changed_shapes f same (c ∷ cs) zero = ap (λ s. s ∷ shapes cs) (same c)
changed_shapes f same (c ∷ cs) (suc k) = ap (λ l. shape c ∷ l) (changed_shapes f same cs k)

pub mapped_shapes : (f : Entry → Entry) → ((c : Entry) → shape (f c) ≡ shape c) → (own : List Entry) → shapes (map f own) ≡ shapes own
mapped_shapes f same [] = refl
mapped_shapes f same (c ∷ cs) = (λ i. same c i ∷ mapped_shapes f same cs i)

-- two lists of one length with one shape at each place
pub placed_shapes : (old new : List Entry) → length new ≡ length old
    → ((k : ℕ) (c : Entry) → slice_get old k ≡ Some c → (d : Entry) × (slice_get new k ≡ Some d) × (shape d ≡ shape c)) → shapes new ≡ shapes old
placed_shapes [] [] l h = refl
placed_shapes [] (d ∷ ds) l h = absurd (cc)
placed_shapes (c ∷ cs) [] l h = absurd (cc)
placed_shapes (c ∷ cs) (d ∷ ds) l h =
    let first = h 0 c refl in
    let e : shape d ≡ shape c = ap shape (same_Some d first.0 first.1) ∙ first.2 in
    let rest : shapes ds ≡ shapes cs = placed_shapes cs ds (cc) (λ k x at. h (suc k) x at) in
    λ i. e i ∷ rest i

-- ---- children at the end

pub prefixes-append : (unit : WorkUnit) (xs ys : List Entry) → prefixes unit (xs ++ ys) ≡ prefixes unit xs ++ prefixes unit ys
prefixes-append unit [] ys = refl
prefixes-append unit (c ∷ cs) ys = go (is_unit c.parent unit) (prefixes-append unit cs ys)
  where
    go : (b : Bool) → prefixes unit (cs ++ ys) ≡ prefixes unit cs ++ prefixes unit ys
        → map (λ c. c.prefix) (cond b (c ∷ frame unit (cs ++ ys)) (frame unit (cs ++ ys))) ≡ map (λ c. c.prefix) (cond b (c ∷ frame unit cs) (frame unit cs)) ++ prefixes unit ys
    go true e = ap (λ l. c.prefix ∷ l) e
    go false e = e

pub prefixes_of_new : (parent unit : WorkUnit) (ps : List (List ℕ)) → same_unit parent unit ≡ true → prefixes unit (map (λ p. new_child parent p) ps) ≡ ps
prefixes_of_new parent unit [] e = refl
prefixes_of_new parent unit (p ∷ ps) e =
    ap (λ b. map (λ c. c.prefix) (cond b (new_child parent p ∷ frame unit (map (λ p. new_child parent p) ps)) (frame unit (map (λ p. new_child parent p) ps)))) e
    ∙ ap (λ l. p ∷ l) (prefixes_of_new parent unit ps e)

pub prefixes_of_others : (parent unit : WorkUnit) (ps : List (List ℕ)) → same_unit parent unit ≡ false → prefixes unit (map (λ p. new_child parent p) ps) ≡ []
prefixes_of_others parent unit [] e = refl
prefixes_of_others parent unit (p ∷ ps) e =
    ap (λ b. map (λ c. c.prefix) (cond b (new_child parent p ∷ frame unit (map (λ p. new_child parent p) ps)) (frame unit (map (λ p. new_child parent p) ps)))) e
    ∙ prefixes_of_others parent unit ps e

-- a unit without children is no one's parent
pub no_child : (unit : WorkUnit) (own : List Entry) → prefixes unit own ≡ [] → (k : ℕ) (c : Entry) → slice_get own k ≡ Some c → c.parent ≡ Some unit → ⊥
no_child unit [] e k c at p = none-some c at
no_child unit (d ∷ ds) e k c at p = go (is_unit d.parent unit) refl e k at (λ e' j at'. no_child unit ds e' j c at' p)
  where
    go : (b : Bool) → is_unit d.parent unit ≡ b → map (λ c. c.prefix) (cond b (d ∷ frame unit ds) (frame unit ds)) ≡ [] → (k : ℕ) → slice_get (d ∷ ds) k ≡ Some c
        → (prefixes unit ds ≡ [] → (j : ℕ) → slice_get ds j ≡ Some c → ⊥) → ⊥
    go true t e' k at' later = cc
    go false t e' zero at' later = true≢false (sym (parent_self d.parent unit (ap (λ x. x.parent) (same_Some d c at') ∙ p)) ∙ t)
    go false t e' (suc j) at' later = later e' j at'

-- an element of a frame stands among the own children
pub frame_at : (unit : WorkUnit) (own : List Entry) (k : ℕ) (c : Entry) → slice_get (frame unit own) k ≡ Some c → (j : ℕ) × (slice_get own j ≡ Some c)
frame_at unit [] k c at = absurd (none-some c at)
frame_at unit (d ∷ ds) k c at = go (is_unit d.parent unit) k at (λ j at'. frame_at unit ds j c at')
  where
    go : (b : Bool) (k : ℕ) → slice_get (cond b (d ∷ frame unit ds) (frame unit ds)) k ≡ Some c → ((j : ℕ) → slice_get (frame unit ds) j ≡ Some c → (j : ℕ) × (slice_get ds j ≡ Some c)) → (j : ℕ) × (slice_get (d ∷ ds) j ≡ Some c)
    go true zero at' later = (0, at')
    go true (suc j) at' later = let w = later j at' in (suc w.0, w.1)
    go false j at' later = let w = later j at' in (suc w.0, w.1)

-- ---- units after a change of status

pub gets_same : (view : View) (unit : WorkUnit) (s : Status) (entry : Entry) → unit_in view unit ≡ Some entry → unit_in (unit_gets view unit s) unit ≡ Some (with_status s entry)
gets_same view (Own serial) s entry e =
    ⊎_elim
    (λ (h : (serial ≡ serial) × (slice_get (change_at (with_status s) view.own serial) serial ≡ Some (with_status s entry))). h.1)
    (λ (h : (serial ≢ serial) × (slice_get (change_at (with_status s) view.own serial) serial ≡ Some entry)). absurd (h.0 refl))
    (get_changed (with_status s) view.own serial serial entry e)
gets_same view (Guest name attempt) s entry e = changed_guest s view.guests name attempt entry e

change_elsewhere : (f : Entry → Entry) (own : List Entry) (k j : ℕ) → (k ≡ j → ⊥) → slice_get (change_at f own k) j ≡ slice_get own j
change_elsewhere f [] k j n = refl
change_elsewhere f (c ∷ cs) zero zero n = absurd (n refl)
change_elsewhere f (c ∷ cs) zero (suc j) n = refl
change_elsewhere f (c ∷ cs) (suc k) zero n = refl
change_elsewhere f (c ∷ cs) (suc k) (suc j) n = change_elsewhere f cs k j (λ e. n (ap suc e))

-- a guest is one of two names only if these are one
one_key : (g : GuestEntry) (n m : ChildName) (a b : ℕ) → is_guest n a g ≡ true → is_guest m b g ≡ true → same_unit (Guest n a) (Guest m b) ≡ true
one_key g n m a b h k =
    let p = and_parts (same_name g.name n) (g.entry.attempt == a) h in
    let q = and_parts (same_name g.name m) (g.entry.attempt == b) k in
    let e : n ≡ m = sym (name_path g.name n p.0) ∙ name_path g.name m q.0 in
    let f : a ≡ b = sym (eqb-true g.entry.attempt a p.1) ∙ eqb-true g.entry.attempt b q.1 in
    and_from (same_name n m) (a == b) (ap (same_name n) (sym e) ∙ same_name_self n) (eq-eqb a b f)

guest_elsewhere : (s : Status) (gs : List GuestEntry) (n m : ChildName) (a b : ℕ) → same_unit (Guest n a) (Guest m b) ≡ false → guest_in (change_guest (with_status s) gs n a) m b ≡ guest_in gs m b
guest_elsewhere s [] n m a b d = refl
guest_elsewhere s (g ∷ gs) n m a b d = go (is_guest n a g) refl (guest_elsewhere s gs n m a b d)
  where
    other : (t : Bool) → is_guest n a g ≡ true → is_guest m b g ≡ t → cond t (Some (with_status s g.entry)) (guest_in gs m b) ≡ cond t (Some g.entry) (guest_in gs m b)
    other true h k = absurd (true≢false (sym (one_key g n m a b h k) ∙ d))
    other false h k = refl

    go : (t : Bool) → is_guest n a g ≡ t → guest_in (change_guest (with_status s) gs n a) m b ≡ guest_in gs m b
        → guest_in (cond t (record { name = g.name; entry = with_status s g.entry } ∷ gs) (g ∷ change_guest (with_status s) gs n a)) m b ≡ cond (is_guest m b g) (Some g.entry) (guest_in gs m b)
    go true h e = other (is_guest m b g) h refl
    go false h e = ap (λ o. cond (is_guest m b g) (Some g.entry) o) e

pub gets_other : (view : View) (unit other : WorkUnit) (s : Status) → same_unit unit other ≡ false → unit_in (unit_gets view unit s) other ≡ unit_in view other
gets_other view (Own k) (Own j) s d = change_elsewhere (with_status s) view.own k j (eqb-false k j d)
gets_other view (Own k) (Guest m b) s d = refl
gets_other view (Guest n a) (Own j) s d = refl
gets_other view (Guest n a) (Guest m b) s d = guest_elsewhere s view.guests n m a b d

-- the guest that was inserted, and the others
pub inserted_guest : (new : GuestEntry) (gs : List GuestEntry) (m : ChildName) (b : ℕ) (e : Entry) → guest_in (insert_guest new gs) m b ≡ Some e
    → ((e ≡ new.entry) × (same_unit (Guest new.name new.entry.attempt) (Guest m b) ≡ true)) ⊎ (guest_in gs m b ≡ Some e)
inserted_guest new [] m b e at = first (is_guest m b new) refl at
  where
    first : (t : Bool) → is_guest m b new ≡ t → cond t (Some new.entry) None ≡ Some e → ((e ≡ new.entry) × (same_unit (Guest new.name new.entry.attempt) (Guest m b) ≡ true)) ⊎ (None ≡ Some e)
    first true h at' = inl (sym (same_Some new.entry e at'), h)
    first false h at' = inr at'
inserted_guest new (g ∷ gs) m b e at = place (guest_before new.name new.entry.attempt g.name g.entry.attempt) at (λ at'. inserted_guest new gs m b e at')
  where
    first : (t : Bool) → is_guest m b new ≡ t → cond t (Some new.entry) (guest_in (g ∷ gs) m b) ≡ Some e → ((e ≡ new.entry) × (same_unit (Guest new.name new.entry.attempt) (Guest m b) ≡ true)) ⊎ (guest_in (g ∷ gs) m b ≡ Some e)
    first true h at' = inl (sym (same_Some new.entry e at'), h)
    first false h at' = inr at'

    second : (t : Bool) → cond t (Some g.entry) (guest_in (insert_guest new gs) m b) ≡ Some e
        → (guest_in (insert_guest new gs) m b ≡ Some e → ((e ≡ new.entry) × (same_unit (Guest new.name new.entry.attempt) (Guest m b) ≡ true)) ⊎ (guest_in gs m b ≡ Some e))
        → ((e ≡ new.entry) × (same_unit (Guest new.name new.entry.attempt) (Guest m b) ≡ true)) ⊎ (cond t (Some g.entry) (guest_in gs m b) ≡ Some e)
    second true at' later = inr at'
    second false at' later = later at'

    place : (t : Bool) → guest_in (cond t (new ∷ g ∷ gs) (g ∷ insert_guest new gs)) m b ≡ Some e
        → (guest_in (insert_guest new gs) m b ≡ Some e → ((e ≡ new.entry) × (same_unit (Guest new.name new.entry.attempt) (Guest m b) ≡ true)) ⊎ (guest_in gs m b ≡ Some e))
        → ((e ≡ new.entry) × (same_unit (Guest new.name new.entry.attempt) (Guest m b) ≡ true)) ⊎ (guest_in (g ∷ gs) m b ≡ Some e)
    place true at' later = first (is_guest m b new) refl at'
    place false at' later = second (is_guest m b g) at' later

pub inserted_none : (new : GuestEntry) (gs : List GuestEntry) (m : ChildName) (b : ℕ) → guest_in (insert_guest new gs) m b ≡ None → guest_in gs m b ≡ None
inserted_none new [] m b at = refl
inserted_none new (g ∷ gs) m b at = place (guest_before new.name new.entry.attempt g.name g.entry.attempt) at (λ at'. inserted_none new gs m b at')
  where
    first : (t : Bool) → cond t (Some new.entry) (guest_in (g ∷ gs) m b) ≡ None → guest_in (g ∷ gs) m b ≡ None
    first true at' = absurd (none-some new.entry (sym at'))
    first false at' = at'

    second : (t : Bool) → cond t (Some g.entry) (guest_in (insert_guest new gs) m b) ≡ None → (guest_in (insert_guest new gs) m b ≡ None → guest_in gs m b ≡ None) → cond t (Some g.entry) (guest_in gs m b) ≡ None
    second true at' later = at'
    second false at' later = later at'

    place : (t : Bool) → guest_in (cond t (new ∷ g ∷ gs) (g ∷ insert_guest new gs)) m b ≡ None → (guest_in (insert_guest new gs) m b ≡ None → guest_in gs m b ≡ None) → guest_in (g ∷ gs) m b ≡ None
    place true at' later = first (is_guest m b new) at'
    place false at' later = second (is_guest m b g) at' later

-- a guest's entry after the owners' losses
abbrev pub if_lost : Bool → Entry → Entry
if_lost true e = with_status Dropped e
if_lost false e = e

abbrev pub lost_entry : List ℕ → ChildName → Option Entry → Option Entry
lost_entry known name None = None
lost_entry known name (Some e) = Some (if_lost (is_older known name.site && is_open e.status) e)

pub dropped_guest : (known : List ℕ) (gs : List GuestEntry) (m : ChildName) (b : ℕ) → guest_in (drop_lost known gs) m b ≡ lost_entry known m (guest_in gs m b)
dropped_guest known [] m b = refl
dropped_guest known (g ∷ gs) m b = key (is_older known g.name.site && is_open g.entry.status) refl ∙ go (is_guest m b g) refl (dropped_guest known gs m b)
  where
    key : (t : Bool) → (is_older known g.name.site && is_open g.entry.status) ≡ t
        → cond (is_guest m b (drop_if t g)) (Some (drop_if t g).entry) (guest_in (drop_lost known gs) m b) ≡ cond (is_guest m b g) (Some (if_lost t g.entry)) (guest_in (drop_lost known gs) m b)
    key true e = refl
    key false e = refl

    go : (t : Bool) → is_guest m b g ≡ t → guest_in (drop_lost known gs) m b ≡ lost_entry known m (guest_in gs m b)
        → cond t (Some (if_lost (is_older known g.name.site && is_open g.entry.status) g.entry)) (guest_in (drop_lost known gs) m b) ≡ lost_entry known m (cond t (Some g.entry) (guest_in gs m b))
    go true h e =
        let n : g.name ≡ m = name_path g.name m (and_parts (same_name g.name m) (g.entry.attempt == b) h).0 in
        ap (λ x. Some (if_lost (is_older known x.site && is_open g.entry.status) g.entry)) n
    go false h e = e
