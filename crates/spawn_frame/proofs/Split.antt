-- What is true of a table stays true where a unit is split.
use Rattle.std.proofs.Common.{◌≡◌, ◌⊎◌, ℕ, zero, suc, ◌+◌, ◌<◌, ◌≤◌, true, false, ◌&&◌, ◌==◌, List, [], ◌∷◌, ◌++◌, map, length, Option, Some, None, is_some, IsSome, slice_get, refl, sym, ap, subst, ◌∙◌, inl, inr, ⊎_elim, arith}
use Rattle.std.specs.List.{AllByRecursion}
use Rattle.std.proofs.lemmas.List.{length-append, length-map, map-append}
use Rattle.std.proofs.lemmas.Option.{same_Some, none-some, slice_get_within}
use Rattle.std.proofs.lemmas.Bool.{and_from, and_parts, both_ways, eqb-true, eq-eqb, false≢true, false_from_ne_true, ne_eqb}
use Rattle.spawn_frame.specs.Frames.{cover_of}
use Rattle.spawn_frame.specs.Inlets.{is_done}
use Rattle.spawn_frame.specs.Names.{same_name, same_unit}
use Rattle.spawn_frame.specs.Prefixes.{AreGrown, Link, Origin, last_of, link_of, link_path, origin_of, path_among, path_of}
use Rattle.spawn_frame.specs.Splits.{new_child, split_into}
use Rattle.spawn_frame.specs.Tables.{AreChildren, HasParents, IsAscending, is_here, suits}
use Rattle.spawn_frame.specs.Units.{Entry, guest_in, is_guest, table_gets, table_own, unit_of, with_status}
use Rattle.spawn_frame.specs.Works.{IsUnit, IsTable, IsWork, change_child, change_work, child_entry, child_work, fresh_child, guest_entry, guests_after, has_child, is_whole, new_work, own_after, split_work, table_of, work_in}
use Rattle.spawn_frame.specs.declared.child.Child.{Child}
use Rattle.spawn_frame.specs.declared.guest.Guest.{Guest}
use Rattle.spawn_frame.specs.declared.site.Site.{Site}
use Rattle.spawn_frame.specs.declared.status.Status.{Status}
use Rattle.spawn_frame.specs.declared.status.Status.TheVariants.{Aborted, Done, Dropped, Finished, Here, Out, Ready, Settled, Split}
use Rattle.spawn_frame.specs.declared.unit.Unit.{Unit as WorkUnit}
use Rattle.spawn_frame.specs.declared.unit.Unit.TheVariants as units
use Rattle.spawn_frame.specs.declared.work.Work.{Work}
use Rattle.spawn_frame.proofs.Admitted.{find_child}
use Rattle.spawn_frame.proofs.Briefs.{briefs, same_child, same_frame}
use Rattle.spawn_frame.proofs.Ended.{each_told}
use Rattle.spawn_frame.proofs.Filled.{change_front}
use Rattle.spawn_frame.proofs.Found.{unit_work}
use Rattle.spawn_frame.proofs.Grown.{links_kept, origins_kept, path_in, path_work}
use Rattle.spawn_frame.proofs.Kept.{ascending_kept, child_briefs, each_weaker, guest_there, keys_kept, length_changed, still_there, was_there}
use Rattle.spawn_frame.proofs.Lookups.{child_before, child_view, guest_view, with_work}
use Rattle.spawn_frame.proofs.Parents.{children_new, children_of_others, no_children}
use Rattle.spawn_frame.proofs.Sames.{name_path, parent_path, same_name_self}
use Rattle.spawn_frame.proofs.Spawned.{child_append, child_of_other, entries_new, hearing_append, hearing_new, news}

-- any unit may be split
split_suits : (unit : WorkUnit) → suits unit Split ≡ true
split_suits (units.Own serial) = refl
split_suits (units.Guest name attempt) = refl

-- ---- lists with others behind them

front_or_behind : {X : Type 0} (xs ys : List X) (j : ℕ) (d : X) → slice_get (xs ++ ys) j ≡ Some d → (slice_get xs j ≡ Some d) ⊎ ((i : ℕ) × (length xs ≤ j) × (slice_get ys i ≡ Some d))
front_or_behind [] ys j d at = inr (j, omega arith, at)
front_or_behind (x ∷ xs) ys zero d at = inl at
front_or_behind {X} (x ∷ xs) ys (suc j) d at = ⊎_elim
    (λ (h : slice_get xs j ≡ Some d). inl h)
    (λ (h : (i : ℕ) × (length xs ≤ j) × (slice_get ys i ≡ Some d)). let l : length xs ≤ j = h.1 in inr (h.0, omega arith, h.2))
    (front_or_behind xs ys j d at)

pub front_there : (xs ys : List Entry) (j : ℕ) → IsSome (slice_get xs j) → IsSome (slice_get (xs ++ ys) j)
front_there [] ys j h = absurd (false≢true h)
front_there (x ∷ xs) ys zero h = refl
front_there (x ∷ xs) ys (suc j) h = front_there xs ys j h

new_at : (unit : WorkUnit) (ps : List (List ℕ)) (i : ℕ) (d : Child) → slice_get (map (fresh_child unit) ps) i ≡ Some d → (p : List ℕ) × (d ≡ fresh_child unit p)
new_at unit [] i d at = absurd (none-some d at)
new_at unit (p ∷ ps) zero d at = (p, sym (same_Some (fresh_child unit p) d at))
new_at unit (p ∷ ps) (suc i) d at = new_at unit ps i d at

new_entry_at : (unit : WorkUnit) (ps : List (List ℕ)) (i : ℕ) (d : Entry) → slice_get (news unit ps) i ≡ Some d → d.parent ≡ Some unit
new_entry_at unit [] i d at = absurd (none-some d at)
new_entry_at unit (p ∷ ps) zero d at = ap (λ x. x.parent) (sym (same_Some (new_child unit p) d at))
new_entry_at unit (p ∷ ps) (suc i) d at = new_entry_at unit ps i d at

front_get : {X : Type 0} (xs ys : List X) (j : ℕ) → j < length xs → slice_get (xs ++ ys) j ≡ slice_get xs j
front_get [] ys j h = absurd (omega (arith, h))
front_get (x ∷ xs) ys zero h = refl
front_get (x ∷ xs) ys (suc j) h = front_get xs ys j (omega (arith, h))

-- what a new child holds of its prefix
pub record IsNewLink (unit : WorkUnit) (before : List ℕ) (link : Link) : Type 0 where
  pub parent : link.parent ≡ Some unit
  pub path : link.path ≡ before ++ link.option ∷ []

new_link : (unit : WorkUnit) (path : List ℕ) (ps : List (List ℕ)) → AllByRecursion (λ p. p ≡ path ++ last_of p ∷ []) ps → (i : ℕ) (link : Link) → slice_get (map link_of (map (fresh_child unit) ps)) i ≡ Some link
    → IsNewLink unit path link
new_link unit path [] h i link at = absurd (none-some link at)
new_link unit path (p ∷ ps) h zero link at =
    subst (IsNewLink unit path) (same_Some (link_of (fresh_child unit p)) link at) (record { parent = refl; path = h.0 })
new_link unit path (p ∷ ps) h (suc i) link at = new_link unit path ps h.1 i link at

-- what frames see of a unit that is here
pub record IsBegun (status : Status) : Type 0 where
  pub whole : is_whole status ≡ true
  pub undone : is_done status ≡ false
  pub uncovered : is_some (cover_of status) ≡ false

here_is_begun : (status : Status) → is_here status ≡ true → IsBegun status
here_is_begun Here h = record { whole = refl; undone = refl; uncovered = refl }
here_is_begun Ready h = absurd (false≢true h)
here_is_begun Split h = absurd (false≢true h)
here_is_begun (Out thief) h = absurd (false≢true h)
here_is_begun (Done result) h = absurd (false≢true h)
here_is_begun Aborted h = absurd (false≢true h)
here_is_begun (Finished result) h = absurd (false≢true h)
here_is_begun (Settled result) h = absurd (false≢true h)
here_is_begun Dropped h = absurd (false≢true h)

-- ---- the table

module _ (site : Site) (limit : ℕ) (own : List Child) (guests : List Guest) (is_table : IsTable (table_of site limit own guests) own guests)
    (unit : WorkUnit) (w : Work) (found : work_in own guests unit ≡ Some w) (here : is_here w.status ≡ true)
    (ps : List (List ℕ)) (fits : length own + length ps ≤ limit) (grows : AllByRecursion (λ p. p ≡ w.path.options ++ last_of p ∷ []) ps) where
  abbrev es : List Entry
  es = map child_entry own

  abbrev becomes : Work → Work
  becomes = split_work (length own) (length ps)

  abbrev kids : List Child
  kids = map (fresh_child unit) ps

  abbrev pub own_split : List Child
  own_split = own_after unit becomes (own ++ kids)

  abbrev pub guests_split : List Guest
  guests_split = guests_after unit becomes guests

  abbrev front : List Child
  front = own_after unit becomes own

  begun : IsBegun w.status
  begun = here_is_begun w.status here

  is_work : IsWork (table_of site limit own guests) unit w
  is_work = unit_work site limit own guests is_table unit w found

  childless : has_child unit es ≡ false
  childless = is_work.in_step.whole begun.whole

  -- an own unit was made before its children
  own_below : (k : ℕ) → unit ≡ units.Own k → k < length own
  own_below k e = go (slice_get own k) refl (ap (work_in own guests) (sym e) ∙ found)
    where
      go : (o : Option Child) → slice_get own k ≡ o → child_work o ≡ Some w → k < length own
      go None at q = absurd (none-some w q)
      go (Some c) at q = slice_get_within own k c at

  own_is : own_split ≡ front ++ kids
  own_is = go unit refl
    where
      go : (u : WorkUnit) → unit ≡ u → own_after u becomes (own ++ kids) ≡ own_after u becomes own ++ kids
      go (units.Own k) e = change_front becomes own kids k (own_below k e)
      go (units.Guest n a) e = refl

  front_length : length front ≡ length own
  front_length = go unit
    where
      go : (u : WorkUnit) → length (own_after u becomes own) ≡ length own
      go (units.Own k) = length_changed becomes own k
      go (units.Guest n a) = refl

  front_briefs : briefs (map child_entry front) ≡ briefs es
  front_briefs = go unit refl
    where
      one : (k : ℕ) (o : Option Child) → slice_get own k ≡ o → child_work o ≡ Some w → briefs (map child_entry (change_child becomes own k)) ≡ briefs es
      one k None at q = absurd (none-some w q)
      one k (Some c) at q =
          let same : c.work ≡ w = same_Some c.work w q in
          let undone : is_done c.work.status ≡ false = ap (λ x. is_done x.status) same ∙ begun.undone in
          let uncovered : is_some (cover_of c.work.status) ≡ false = ap (λ x. is_some (cover_of x.status)) same ∙ begun.uncovered in
          child_briefs becomes own k c at (λ i. record { parent = c.parent; done = sym undone i; covered = sym uncovered i })

      go : (u : WorkUnit) → unit ≡ u → briefs (map child_entry (own_after u becomes own)) ≡ briefs es
      go (units.Own k) e = one k (slice_get own k) refl (ap (work_in own guests) (sym e) ∙ found)
      go (units.Guest n a) e = refl

  abbrev entries : List Entry
  entries = map child_entry front ++ news unit ps

  entries_are : map child_entry own_split ≡ entries
  entries_are = ap (map child_entry) own_is ∙ map-append child_entry front kids ∙ ap (λ l. map child_entry front ++ l) (entries_new unit ps)

  untold : (v : WorkUnit) (x : Work) → same_unit unit v ≡ false → IsUnit v x es → IsUnit v x entries
  untold v x d h =
      let f = same_frame v x es (map child_entry front) front_briefs h in
      let other = child_of_other unit v ps d in
      record {
        attempt = h.attempt;
        status = h.status;
        whole = λ t. child_append v (map child_entry front) (news unit ps) (f.whole t) other;
        split = λ s. f.split s ∙ ap Some (sym (hearing_append v (map child_entry front) (news unit ps) other));
        children = children_of_others v (map child_entry front) (news unit ps) x.children.first x.children.end other f.children;
      }

  told : (x : Work) → 1 ≤ x.attempt → IsUnit unit (becomes x) entries
  told x from = record {
    attempt = from;
    status = split_suits unit;
    whole = λ t. absurd (false≢true t);
    split = λ s. ap Some (sym (hearing_new unit (map child_entry front) ps (same_child unit es (map child_entry front) front_briefs ∙ childless)));
    children = subst (λ n. AreChildren unit entries n (n + length ps)) (length-map front child_entry ∙ front_length)
        (children_new unit (map child_entry front) ps (same_child unit es (map child_entry front) front_briefs ∙ childless));
  }

  -- a child that is made has no children yet
  fresh : (j : ℕ) (p : List ℕ) → length own ≤ j → IsUnit (units.Own j) (new_work p 1) entries
  fresh j p l = record {
    attempt = omega arith;
    status = refl;
    whole = λ t. child_append (units.Own j) (map child_entry front) (news unit ps) (same_child (units.Own j) es (map child_entry front) front_briefs ∙ none) (child_of_other unit (units.Own j) ps (other unit refl));
    split = λ s. absurd (cc);
    children = no_children (units.Own j) entries 0 (child_append (units.Own j) (map child_entry front) (news unit ps) (same_child (units.Own j) es (map child_entry front) front_briefs ∙ none) (child_of_other unit (units.Own j) ps (other unit refl)));
  }
    where
      none : has_child (units.Own j) es ≡ false
      none = false_from_ne_true (has_child (units.Own j) es) (λ t.
          let f = find_child (units.Own j) es t in
          let lower = is_table.parents.lower f.place j f.entry f.is (parent_path f.entry.parent (units.Own j) f.child) in
          let within = slice_get_within es f.place f.entry f.is in
          omega (arith, l, lower, within, length-map own child_entry))

      other : (u : WorkUnit) → unit ≡ u → same_unit u (units.Own j) ≡ false
      other (units.Own k) e = let below = own_below k e in ne_eqb k j (omega (arith, l, below))
      other (units.Guest n a) e = refl

  own_front : (u : WorkUnit) → unit ≡ u → (j : ℕ) (d : Child) → slice_get (own_after u becomes own) j ≡ Some d → IsUnit (units.Own j) d.work entries
  own_front (units.Guest n a) e j d at = untold (units.Own j) d.work (ap (λ u. same_unit u (units.Own j)) e) (is_table.own_units j d at)
  own_front (units.Own k) e j d at =
      let b = child_before becomes own k j d at in
      ⊎_elim
      (λ (h : (j ≡ k) × (d ≡ with_work becomes b.child)).
      subst (λ x. IsUnit (units.Own j) x.work entries) (sym h.1)
      (subst (λ u. IsUnit u (becomes b.child.work) entries) (e ∙ ap units.Own (sym h.0)) (told b.child.work (is_table.own_units j b.child b.is).attempt)))
      (λ (h : (j ≡ k → ⊥) × (d ≡ b.child)).
      subst (λ x. IsUnit (units.Own j) x.work entries) (sym h.1)
      (untold (units.Own j) b.child.work (ap (λ u. same_unit u (units.Own j)) e ∙ ne_eqb k j (λ q. h.0 (sym q))) (is_table.own_units j b.child b.is)))
      b.became

  own_frame : (j : ℕ) (d : Child) → slice_get (front ++ kids) j ≡ Some d → IsUnit (units.Own j) d.work entries
  own_frame j d at = ⊎_elim
      (λ (h : slice_get front j ≡ Some d). own_front unit refl j d h)
      (λ (h : (i : ℕ) × (length front ≤ j) × (slice_get kids i ≡ Some d)).
      let p = new_at unit ps h.0 d h.2 in
      subst (λ x. IsUnit (units.Own j) x.work entries) (sym p.1) (fresh j p.0 (subst (λ n. n ≤ j) front_length h.1)))
      (front_or_behind front kids j d at)

  guest_frame : (u : WorkUnit) → unit ≡ u → AllByRecursion (λ g. IsUnit (units.Guest g.name g.work.attempt) g.work entries) (guests_after u becomes guests)
  guest_frame (units.Own k) e =
      each_weaker (λ g. IsUnit (units.Guest g.name g.work.attempt) g.work es) (λ g. IsUnit (units.Guest g.name g.work.attempt) g.work entries)
      (λ g h. untold (units.Guest g.name g.work.attempt) g.work (ap (λ u. same_unit u (units.Guest g.name g.work.attempt)) e) h) guests is_table.guest_units
  guest_frame (units.Guest n a) e =
      each_told (λ g. IsUnit (units.Guest g.name g.work.attempt) g.work es) (λ g. IsUnit (units.Guest g.name g.work.attempt) g.work entries)
      becomes n a
      (λ g t h.
      let parts = and_parts (same_name g.name n) (g.work.attempt == a) t in
      let name : g.name ≡ n = name_path g.name n parts.0 in
      let attempt : g.work.attempt ≡ a = eqb-true g.work.attempt a parts.1 in
      subst (λ u. IsUnit u (becomes g.work) entries) (e ∙ (λ i. units.Guest (sym name i) (sym attempt i))) (told g.work h.attempt))
      (λ g t h. untold (units.Guest g.name g.work.attempt) g.work (ap (λ u. same_unit u (units.Guest g.name g.work.attempt)) e ∙ other_key g t) h)
      guests is_table.ascending is_table.guest_units
    where
      other_key : (g : Guest) → is_guest n a (guest_entry g) ≡ false → (same_name n g.name && a == g.work.attempt) ≡ false
      other_key g t = false_from_ne_true (same_name n g.name && a == g.work.attempt) (λ s.
          let parts = and_parts (same_name n g.name) (a == g.work.attempt) s in
          let name : n ≡ g.name = name_path n g.name parts.0 in
          let attempt : a ≡ g.work.attempt = eqb-true a g.work.attempt parts.1 in
          both_ways (is_guest n a (guest_entry g)) t
          (and_from (same_name g.name n) (g.work.attempt == a) (ap (same_name g.name) name ∙ same_name_self g.name) (eq-eqb g.work.attempt a (sym attempt))))

  guests_view : (u : WorkUnit) → map guest_entry (guests_after u becomes guests) ≡ (table_gets (table_of site limit own guests) u Split).guests
  guests_view (units.Own k) = refl
  guests_view (units.Guest n a) = guest_view becomes (with_status Split) (λ p x. refl) guests n a

  front_view : (u : WorkUnit) → map child_entry (own_after u becomes own) ≡ (table_gets (table_of site limit own guests) u Split).own
  front_view (units.Own k) = child_view becomes (with_status Split) (λ p x. refl) own k
  front_view (units.Guest n a) = refl

  pub split_view : table_of site limit own_split guests_split ≡ split_into (table_of site limit own guests) unit ps
  split_view = go unit (entries_are ∙ ap (λ l. l ++ news unit ps) (front_view unit)) (guests_view unit)
    where
      go : (u : WorkUnit) → map child_entry own_split ≡ (table_gets (table_of site limit own guests) u Split).own ++ news unit ps → map guest_entry guests_split ≡ (table_gets (table_of site limit own guests) u Split).guests
          → table_of site limit own_split guests_split ≡ table_own (table_gets (table_of site limit own guests) u Split) ((table_gets (table_of site limit own guests) u Split).own ++ news unit ps)
      go (units.Own k) e g = λ i. record { site = site; limit = limit; own = e i; guests = g i }
      go (units.Guest n a) e g = λ i. record { site = site; limit = limit; own = e i; guests = g i }

  unit_there : (v : WorkUnit) → IsSome (unit_of (table_of site limit own guests) v) → IsSome (unit_of (table_of site limit own_split guests_split) v)
  unit_there (units.Own j) h = subst (λ l. IsSome (slice_get l j)) (sym entries_are) (front_there (map child_entry front) (news unit ps) j (still_there es (map child_entry front) front_briefs j ∙ h))
  unit_there (units.Guest m b) h = go unit
    where
      go : (u : WorkUnit) → IsSome (guest_in (map guest_entry (guests_after u becomes guests)) m b)
      go (units.Own k) = h
      go (units.Guest n a) = guest_there becomes (λ x. refl) guests n m a b ∙ h

  parents_split : HasParents (table_of site limit own_split guests_split)
  parents_split = record {
    lower = λ k j c at p. ⊎_elim
        (λ (h : slice_get (map child_entry front) k ≡ Some c).
        let b = was_there es (map child_entry front) front_briefs k c h in is_table.parents.lower k j b.entry b.is (sym (ap (λ x. x.parent) b.same) ∙ p))
        (λ (h : (i : ℕ) × (length (map child_entry front) ≤ k) × (slice_get (news unit ps) i ≡ Some c)).
        let below = own_below j (same_Some unit (units.Own j) (sym (new_entry_at unit ps h.0 c h.2) ∙ p)) in
        let behind : length (map child_entry front) ≤ k = h.1 in
        omega (arith, below, behind, front_length, length-map front child_entry))
        (front_or_behind (map child_entry front) (news unit ps) k c (ap (λ l. slice_get l k) (sym entries_are) ∙ at));
    there = λ k c v at p. ⊎_elim
        (λ (h : slice_get (map child_entry front) k ≡ Some c).
        let b = was_there es (map child_entry front) front_briefs k c h in unit_there v (is_table.parents.there k b.entry v b.is (sym (ap (λ x. x.parent) b.same) ∙ p)))
        (λ (h : (i : ℕ) × (length (map child_entry front) ≤ k) × (slice_get (news unit ps) i ≡ Some c)).
        subst (λ u. IsSome (unit_of (table_of site limit own_split guests_split) u)) (same_Some unit v (sym (new_entry_at unit ps h.0 c h.2) ∙ p))
        (unit_there unit (ap is_some is_work.is)))
        (front_or_behind (map child_entry front) (news unit ps) k c (ap (λ l. slice_get l k) (sym entries_are) ∙ at));
  }

  ascending_split : (u : WorkUnit) → IsAscending (map guest_entry (guests_after u becomes guests))
  ascending_split (units.Own k) = is_table.ascending
  ascending_split (units.Guest n a) = ascending_kept (map guest_entry guests) (map guest_entry (change_work becomes guests n a)) (keys_kept becomes (λ x. refl) guests n a) is_table.ascending

  -- ---- prefixes

  links_are : map link_of own_split ≡ map link_of own ++ map link_of kids
  links_are = ap (map link_of) own_is ∙ map-append link_of front kids ∙ ap (λ l. l ++ map link_of kids) (go unit)
    where
      go : (u : WorkUnit) → map link_of (own_after u becomes own) ≡ map link_of own
      go (units.Own k) = links_kept becomes (λ x. refl) own k
      go (units.Guest n a) = refl

  origins_are : (u : WorkUnit) → map origin_of (guests_after u becomes guests) ≡ map origin_of guests
  origins_are (units.Own k) = refl
  origins_are (units.Guest n a) = origins_kept becomes (λ x. refl) (λ x. refl) guests n a

  -- a unit of the table keeps its path
  path_stays : (v : WorkUnit) → ((j : ℕ) → v ≡ units.Own j → j < length own) → path_among (map link_of own ++ map link_of kids) (map origin_of guests) v ≡ path_of own guests v
  path_stays (units.Own j) below = ap link_path (front_get (map link_of own) (map link_of kids) j (omega (arith, length-map own link_of, below j refl)))
  path_stays (units.Guest n a) below = refl

  path_here : path_among (map link_of own ++ map link_of kids) (map origin_of guests) unit ≡ w.path.options
  path_here = path_stays unit (λ j e. own_below j e) ∙ path_work own guests unit ∙ ap path_in found

  grown_split : AreGrown (map link_of own ++ map link_of kids) (map origin_of guests)
  grown_split = record {
    root = λ k link at p. ⊎_elim
        (λ (h : slice_get (map link_of own) k ≡ Some link). is_table.grown.root k link h p)
        (λ (h : (i : ℕ) × (length (map link_of own) ≤ k) × (slice_get (map link_of kids) i ≡ Some link)).
        let n = new_link unit w.path.options ps grows h.0 link h.2 in absurd (none-some unit (sym p ∙ n.parent)))
        (front_or_behind (map link_of own) (map link_of kids) k link at);
    grown = λ k link v at p. ⊎_elim
        (λ (h : slice_get (map link_of own) k ≡ Some link).
        let within : k < length own = omega (arith, slice_get_within (map link_of own) k link h, length-map own link_of) in
        is_table.grown.grown k link v h p ∙ ap (λ l. l ++ link.option ∷ []) (sym (path_stays v (λ j e. let below = is_table.grown.lower k j link h (p ∙ ap Some e) in omega (arith, below, within)))))
        (λ (h : (i : ℕ) × (length (map link_of own) ≤ k) × (slice_get (map link_of kids) i ≡ Some link)).
        let n = new_link unit w.path.options ps grows h.0 link h.2 in
        let is : unit ≡ v = same_Some unit v (sym n.parent ∙ p) in
        n.path ∙ ap (λ l. l ++ link.option ∷ []) (sym path_here ∙ ap (path_among (map link_of own ++ map link_of kids) (map origin_of guests)) is))
        (front_or_behind (map link_of own) (map link_of kids) k link at);
    lower = λ k j link at p. ⊎_elim
        (λ (h : slice_get (map link_of own) k ≡ Some link). is_table.grown.lower k j link h p)
        (λ (h : (i : ℕ) × (length (map link_of own) ≤ k) × (slice_get (map link_of kids) i ≡ Some link)).
        let n = new_link unit w.path.options ps grows h.0 link h.2 in
        let below = own_below j (same_Some unit (units.Own j) (sym n.parent ∙ p)) in
        let behind : length (map link_of own) ≤ k = h.1 in
        omega (arith, below, behind, length-map own link_of))
        (front_or_behind (map link_of own) (map link_of kids) k link at);
    whole = is_table.grown.whole;
  }

  pub split_kept : IsTable (table_of site limit own_split guests_split) own_split guests_split
  split_kept = record {
    small = is_table.small;
    names = subst (λ n. n ≤ limit) (sym (ap length own_is ∙ length-append front kids ∙ (λ i. front_length i + length-map ps (fresh_child unit) i))) fits;
    ascending = ascending_split unit;
    parents = parents_split;
    grown = subst (λ (p : List Link × List Origin). AreGrown p.0 p.1) (λ i. (sym links_are i, sym (origins_are unit) i)) grown_split;
    own_units = λ j d at. subst (λ l. IsUnit (units.Own j) d.work l) (sym entries_are) (own_frame j d (ap (λ l. slice_get l j) (sym own_is) ∙ at));
    guest_units = subst (λ l. AllByRecursion (λ g. IsUnit (units.Guest g.name g.work.attempt) g.work l) guests_split) (sym entries_are) (guest_frame unit refl);
  }
