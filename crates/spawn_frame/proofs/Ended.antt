-- An own child becomes done, and its frame hears of it.
use Rattle.std.proofs.Common.{◌≡◌, ℕ, zero, suc, ◌<◌, ◌≤◌, Bool, true, false, cond, ◌&&◌, ◌==◌, List, [], ◌∷◌, map, length, option_map, Option, Some, None, is_some, IsSome, slice_get, slice_set, get_or, refl, sym, ap, subst, ◌∙◌, ⊎_elim, arith}
use Rattle.std.specs.List.{AllByRecursion}
use Rattle.std.proofs.lemmas.Option.{same_Some, none-some, slice_get-map}
use Rattle.std.proofs.lemmas.Bool.{and_from, and_parts, both_ways, eqb-true, eq-eqb, false≢true, false_from_ne_true, ne_eqb}
use Rattle.spawn_frame.specs.Frames.{frame, frame_result, is_unit}
use Rattle.spawn_frame.specs.Inlets.{frame_hearing, heard_by, is_done}
use Rattle.spawn_frame.specs.Names.{guest_before, same_name}
use Rattle.spawn_frame.specs.Picks.{is_split}
use Rattle.spawn_frame.specs.Prefixes.{AreGrown, Link, Origin, link_of}
use Rattle.spawn_frame.specs.Tables.{AreChildren, HasParents, IsAscending, has_status, heard_at, may_end, parent_heard, parent_in}
use Rattle.spawn_frame.specs.Units.{Entry, Table, change_at, is_guest, table_gets, unit_of, with_status}
use Rattle.spawn_frame.specs.Works.{HearsFrom, IsUnit, IsTable, change_child, change_work, child_entry, frame_says, guest_entry, guests_told, has_child, heard_work, inlet_after, own_told, parent_work, table_of, with_heard, with_work_status, work_in}
use Rattle.spawn_frame.specs.declared.child.Child.{Child}
use Rattle.spawn_frame.specs.declared.child_result.ChildResult.{ChildResult}
use Rattle.spawn_frame.specs.declared.guest.Guest.{Guest}
use Rattle.spawn_frame.specs.declared.heard.Heard.TheVariants as said
use Rattle.spawn_frame.specs.declared.site.ChildName.{ChildName}
use Rattle.spawn_frame.specs.declared.site.Site.{Site}
use Rattle.spawn_frame.specs.declared.status.Status.{Status}
use Rattle.spawn_frame.specs.declared.status.Status.TheVariants.{Aborted, Done, Dropped, Finished, Here, Out, Ready, Settled, Split}
use Rattle.spawn_frame.specs.declared.unit.Unit.{Unit as WorkUnit}
use Rattle.spawn_frame.specs.declared.unit.Unit.TheVariants as units
use Rattle.spawn_frame.specs.declared.work.Work.{Work}
use Rattle.spawn_frame.proofs.Grown.{links_kept, links_told, origins_told}
use Rattle.spawn_frame.proofs.Found.{unit_none, unit_work}
use Rattle.spawn_frame.proofs.Frames.{child_once_done, child_there, hearing_of_others, hearing_once_done, same_heard, some_left}
use Rattle.spawn_frame.proofs.Kept.{each_weaker, length_changed}
use Rattle.spawn_frame.proofs.Lookups.{child_before, child_view, guest_with, with_work}
use Rattle.spawn_frame.proofs.Parents.{children_stay, same_parents}
use Rattle.spawn_frame.proofs.Picked.{before_itself}
use Rattle.spawn_frame.proofs.Places.{child_set}
use Rattle.spawn_frame.proofs.Sames.{name_path, parent_self, same_name_self}
use Rattle.spawn_frame.proofs.Statuses.{HasChild}
use Rattle.spawn_frame.proofs.Winners.{split_path}

-- ---- what an inlet hears is no matter of entries

pub heard_entries : (k : ℕ) (result : ChildResult) (own : List Child) (j : ℕ) → map child_entry (change_child (with_heard k result) own j) ≡ map child_entry own
heard_entries k result [] j = refl
heard_entries k result (c ∷ cs) zero = refl
heard_entries k result (c ∷ cs) (suc j) = ap (λ l. child_entry c ∷ l) (heard_entries k result cs j)

heard_guests : (k : ℕ) (result : ChildResult) (gs : List Guest) (n : ChildName) (a : ℕ) → map guest_entry (change_work (with_heard k result) gs n a) ≡ map guest_entry gs
heard_guests k result [] n a = refl
heard_guests k result (g ∷ gs) n a = go (is_guest n a (guest_entry g)) (heard_guests k result gs n a)
  where
    go : (b : Bool) → map guest_entry (change_work (with_heard k result) gs n a) ≡ map guest_entry gs → map guest_entry (cond b (guest_with (with_heard k result) g ∷ gs) (g ∷ change_work (with_heard k result) gs n a)) ≡ guest_entry g ∷ map guest_entry gs
    go true e = refl
    go false e = ap (λ l. guest_entry g ∷ l) e

pub told_entries : (k : ℕ) (result : ChildResult) (own : List Child) (parent : Option WorkUnit) → map child_entry (own_told parent (with_heard k result) own) ≡ map child_entry own
told_entries k result own None = refl
told_entries k result own (Some (units.Own j)) = heard_entries k result own j
told_entries k result own (Some (units.Guest n a)) = refl

pub told_guests : (k : ℕ) (result : ChildResult) (guests : List Guest) (parent : Option WorkUnit) → map guest_entry (guests_told parent (with_heard k result) guests) ≡ map guest_entry guests
told_guests k result guests None = refl
told_guests k result guests (Some (units.Own j)) = refl
told_guests k result guests (Some (units.Guest n a)) = heard_guests k result guests n a

told_length : (f : Work → Work) (own : List Child) (parent : Option WorkUnit) → length (own_told parent f own) ≡ length own
told_length f own None = refl
told_length f own (Some (units.Own j)) = length_changed f own j
told_length f own (Some (units.Guest n a)) = refl

-- ---- a status changed at a place

-- the entry that stood at a place has the same parent
status_before : (status : Status) (es : List Entry) (k j : ℕ) (d : Entry) → slice_get (change_at (with_status status) es k) j ≡ Some d → (entry : Entry) × (slice_get es j ≡ Some entry) × (d.parent ≡ entry.parent)
status_before status [] k j d at = absurd (none-some d at)
status_before status (c ∷ cs) zero zero d at = (c, refl, ap (λ x. x.parent) (sym (same_Some (with_status status c) d at)))
status_before status (c ∷ cs) zero (suc j) d at = (d, at, refl)
status_before status (c ∷ cs) (suc k) zero d at = (c, refl, ap (λ x. x.parent) (sym (same_Some c d at)))
status_before status (c ∷ cs) (suc k) (suc j) d at = status_before status cs k j d at

status_there : (status : Status) (es : List Entry) (k j : ℕ) → is_some (slice_get (change_at (with_status status) es k) j) ≡ is_some (slice_get es j)
status_there status [] k j = refl
status_there status (c ∷ cs) zero zero = refl
status_there status (c ∷ cs) zero (suc j) = refl
status_there status (c ∷ cs) (suc k) zero = refl
status_there status (c ∷ cs) (suc k) (suc j) = status_there status cs k j

status_elsewhere : (status : Status) (es : List Entry) (k j : ℕ) → j < k → slice_get (change_at (with_status status) es k) j ≡ slice_get es j
status_elsewhere status [] k j h = refl
status_elsewhere status (c ∷ cs) zero j h = absurd (omega (arith, h))
status_elsewhere status (c ∷ cs) (suc k) zero h = refl
status_elsewhere status (c ∷ cs) (suc k) (suc j) h = status_elsewhere status cs k j (omega (arith, h))

status_at : (status : Status) (es : List Entry) (k : ℕ) (c : Entry) → slice_get es k ≡ Some c → slice_get (change_at (with_status status) es k) k ≡ Some (with_status status c)
status_at status [] k c at = absurd (none-some c at)
status_at status (x ∷ xs) zero c at = ap (λ y. Some (with_status status y)) (same_Some x c at)
status_at status (x ∷ xs) (suc k) c at = status_at status xs k c at

-- who may end isn't done
ends_undone : (status : Status) → may_end status ≡ true → is_done status ≡ false
ends_undone (Done result) h = absurd (false≢true h)
ends_undone Ready h = refl
ends_undone Here h = refl
ends_undone Split h = refl
ends_undone (Out thief) h = refl
ends_undone Aborted h = refl
ends_undone (Finished result) h = refl
ends_undone (Settled result) h = refl
ends_undone Dropped h = refl

-- ---- frames, where the child at k becomes done

module _ (es : List Entry) (k : ℕ) (c : Entry) (at : slice_get es k ≡ Some c) (undone : is_done c.status ≡ false) (result : ChildResult) where
  abbrev new : List Entry
  new = change_at (with_status (Done result)) es k

  children_done : (unit : WorkUnit) (w : Work) → AreChildren unit es w.children.first w.children.end → AreChildren unit new w.children.first w.children.end
  children_done unit w h = children_stay unit es new w.children.first w.children.end (same_parents (with_status (Done result)) (λ x. refl) es k) h

  frame_told : (unit : WorkUnit) (w : Work) → c.parent ≡ Some unit → IsUnit unit w es → IsUnit unit (with_heard k result w) new
  frame_told unit w p h =
      let child : is_unit c.parent unit ≡ true = parent_self c.parent unit p in
      record {
        attempt = h.attempt;
        status = h.status;
        whole = λ t. absurd (both_ways (has_child unit es) (h.whole t) (child_there unit es k c at child));
        split = λ s.
            ap (λ b. cond b (inlet_after k result w.inlet) w.inlet) (ap is_split s)
            ∙ ap (inlet_after k result) (h.split s)
            ∙ ap Some (sym (hearing_once_done unit result es k c at child undone));
        children = children_done unit (with_heard k result w) h.children;
      }

  frame_untold : (unit : WorkUnit) (w : Work) → is_unit c.parent unit ≡ false → IsUnit unit w es → IsUnit unit w new
  frame_untold unit w p h = record {
    attempt = h.attempt;
    status = h.status;
    whole = λ t. child_once_done unit (Done result) es k ∙ h.whole t;
    split = λ s. h.split s ∙ ap Some (sym (hearing_of_others unit result es k c at p));
    children = children_done unit w h.children;
  }

  -- a child that is done is no frame
  frame_done : (j : ℕ) (w : Work) → IsUnit (units.Own j) w new → IsUnit (units.Own j) (with_work_status (Done result) w) new
  frame_done j w h = record { attempt = h.attempt; status = refl; whole = λ t. absurd (false≢true t); split = λ s. absurd (cc); children = h.children }

-- ---- guests, of which one hears

-- a guest that stands behind a name and attempt is another
another : (n : ChildName) (a : ℕ) (g : Guest) → guest_before n a g.name g.work.attempt ≡ true → is_guest n a (guest_entry g) ≡ false
another n a g h = false_from_ne_true (is_guest n a (guest_entry g)) (λ t.
    let parts = and_parts (same_name g.name n) (g.work.attempt == a) t in
    let name : g.name ≡ n = name_path g.name n parts.0 in
    let attempt : g.work.attempt ≡ a = eqb-true g.work.attempt a parts.1 in
    both_ways (guest_before n a n a) (before_itself n a) ((λ i. guest_before n a (sym name i) (sym attempt i)) ∙ h))

module _ (P Q : Guest → Type 0) (f : Work → Work) (n : ChildName) (a : ℕ)
    (told : (g : Guest) → is_guest n a (guest_entry g) ≡ true → P g → Q (guest_with f g))
    (untold : (g : Guest) → is_guest n a (guest_entry g) ≡ false → P g → Q g) where
  behind_told : (g : Guest) → is_guest n a (guest_entry g) ≡ true → (gs : List Guest) → AllByRecursion (λ x. guest_before g.name g.work.attempt x.name x.entry.attempt ≡ true) (map guest_entry gs) → AllByRecursion P gs → AllByRecursion Q gs
  behind_told g t [] h p = tt
  behind_told g t (x ∷ xs) h p =
      let parts = and_parts (same_name g.name n) (g.work.attempt == a) t in
      let name : g.name ≡ n = name_path g.name n parts.0 in
      let attempt : g.work.attempt ≡ a = eqb-true g.work.attempt a parts.1 in
      let before : guest_before n a x.name x.work.attempt ≡ true = (λ i. guest_before (sym name i) (sym attempt i) x.name x.work.attempt) ∙ h.0 in
      (untold x (another n a x before) p.0, behind_told g t xs h.1 p.1)

  pub each_told : (gs : List Guest) → IsAscending (map guest_entry gs) → AllByRecursion P gs → AllByRecursion Q (change_work f gs n a)
  each_told [] h p = tt
  each_told (g ∷ gs) h p = go (is_guest n a (guest_entry g)) refl (each_told gs h.1 p.1)
    where
      go : (b : Bool) → is_guest n a (guest_entry g) ≡ b → AllByRecursion Q (change_work f gs n a) → AllByRecursion Q (cond b (guest_with f g ∷ gs) (g ∷ change_work f gs n a))
      go true t later = (told g t p.0, behind_told g t gs h.0 p.1)
      go false t later = (untold g t p.0, later)

-- ---- the table

module _ (site : Site) (limit : ℕ) (own : List Child) (guests : List Guest) (is_table : IsTable (table_of site limit own guests) own guests)
    (k : ℕ) (there : HasChild may_end own k) (result : ChildResult) where
  abbrev es : List Entry
  es = map child_entry own

  abbrev parent : Option WorkUnit
  parent = there.child.parent

  abbrev hears : Work → Work
  hears = with_heard k result

  abbrev pub own_ended : List Child
  own_ended = change_child (with_work_status (Done result)) (own_told parent hears own) k

  abbrev pub guests_ended : List Guest
  guests_ended = guests_told parent hears guests

  entry_at : slice_get es k ≡ Some (child_entry there.child)
  entry_at = slice_get-map child_entry own k ∙ ap (option_map child_entry) there.is

  undone : is_done there.child.work.status ≡ false
  undone = ends_undone there.child.work.status there.passes

  entries_ended : map child_entry own_ended ≡ change_at (with_status (Done result)) es k
  entries_ended =
      child_view (with_work_status (Done result)) (with_status (Done result)) (λ p w. refl) (own_told parent hears own) k
      ∙ ap (λ l. change_at (with_status (Done result)) l k) (told_entries k result own parent)

  guests_same : map guest_entry guests_ended ≡ map guest_entry guests
  guests_same = told_guests k result guests parent

  pub ended_view : table_of site limit own_ended guests_ended ≡ table_gets (table_of site limit own guests) (units.Own k) (Done result)
  ended_view = λ i. record { site = site; limit = limit; own = entries_ended i; guests = guests_same i }

  untold : (unit : WorkUnit) (w : Work) → is_unit parent unit ≡ false → IsUnit unit w es → IsUnit unit w (change_at (with_status (Done result)) es k)
  untold unit w p h = frame_untold es k (child_entry there.child) entry_at undone result unit w p h

  told : (unit : WorkUnit) (w : Work) → parent ≡ Some unit → IsUnit unit w es → IsUnit unit (hears w) (change_at (with_status (Done result)) es k)
  told unit w p h = frame_told es k (child_entry there.child) entry_at undone result unit w p h

  own_heard : (p : Option WorkUnit) → parent ≡ p → (j : ℕ) (d : Child) → slice_get (own_told p hears own) j ≡ Some d → IsUnit (units.Own j) d.work (change_at (with_status (Done result)) es k)
  own_heard None e j d at = untold (units.Own j) d.work (ap (λ q. is_unit q (units.Own j)) e) (is_table.own_units j d at)
  own_heard (Some (units.Guest n a)) e j d at = untold (units.Own j) d.work (ap (λ q. is_unit q (units.Own j)) e) (is_table.own_units j d at)
  own_heard (Some (units.Own m)) e j d at =
      let b = child_before hears own m j d at in
      ⊎_elim
      (λ (h : (j ≡ m) × (d ≡ with_work hears b.child)).
      subst (λ x. IsUnit (units.Own j) x.work (change_at (with_status (Done result)) es k)) (sym h.1)
      (told (units.Own j) b.child.work (e ∙ ap (λ i. Some (units.Own i)) (sym h.0)) (is_table.own_units j b.child b.is)))
      (λ (h : (j ≡ m → ⊥) × (d ≡ b.child)).
      subst (λ x. IsUnit (units.Own j) x.work (change_at (with_status (Done result)) es k)) (sym h.1)
      (untold (units.Own j) b.child.work (ap (λ q. is_unit q (units.Own j)) e ∙ ne_eqb m j (λ q. h.0 (sym q))) (is_table.own_units j b.child b.is)))
      b.became

  own_frame : (j : ℕ) (d : Child) → slice_get own_ended j ≡ Some d → IsUnit (units.Own j) d.work (change_at (with_status (Done result)) es k)
  own_frame j d at =
      let b = child_before (with_work_status (Done result)) (own_told parent hears own) k j d at in
      ⊎_elim
      (λ (h : (j ≡ k) × (d ≡ with_work (with_work_status (Done result)) b.child)).
      subst (λ x. IsUnit (units.Own j) x.work (change_at (with_status (Done result)) es k)) (sym h.1)
      (frame_done es k (child_entry there.child) entry_at undone result j b.child.work (own_heard parent refl j b.child b.is)))
      (λ (h : (j ≡ k → ⊥) × (d ≡ b.child)).
      subst (λ x. IsUnit (units.Own j) x.work (change_at (with_status (Done result)) es k)) (sym h.1) (own_heard parent refl j b.child b.is))
      b.became

  guest_heard : (p : Option WorkUnit) → parent ≡ p → AllByRecursion (λ g. IsUnit (units.Guest g.name g.work.attempt) g.work (change_at (with_status (Done result)) es k)) (guests_told p hears guests)
  guest_heard None e =
      each_weaker (λ g. IsUnit (units.Guest g.name g.work.attempt) g.work es) (λ g. IsUnit (units.Guest g.name g.work.attempt) g.work (change_at (with_status (Done result)) es k))
      (λ g h. untold (units.Guest g.name g.work.attempt) g.work (ap (λ q. is_unit q (units.Guest g.name g.work.attempt)) e) h) guests is_table.guest_units
  guest_heard (Some (units.Own j)) e =
      each_weaker (λ g. IsUnit (units.Guest g.name g.work.attempt) g.work es) (λ g. IsUnit (units.Guest g.name g.work.attempt) g.work (change_at (with_status (Done result)) es k))
      (λ g h. untold (units.Guest g.name g.work.attempt) g.work (ap (λ q. is_unit q (units.Guest g.name g.work.attempt)) e) h) guests is_table.guest_units
  guest_heard (Some (units.Guest n a)) e =
      each_told (λ g. IsUnit (units.Guest g.name g.work.attempt) g.work es) (λ g. IsUnit (units.Guest g.name g.work.attempt) g.work (change_at (with_status (Done result)) es k))
      hears n a
      (λ g t h.
      let parts = and_parts (same_name g.name n) (g.work.attempt == a) t in
      let name : g.name ≡ n = name_path g.name n parts.0 in
      let attempt : g.work.attempt ≡ a = eqb-true g.work.attempt a parts.1 in
      told (units.Guest g.name g.work.attempt) g.work (e ∙ (λ i. Some (units.Guest (sym name i) (sym attempt i)))) h)
      (λ g t h. untold (units.Guest g.name g.work.attempt) g.work (ap (λ q. is_unit q (units.Guest g.name g.work.attempt)) e ∙ other_key n a g t) h)
      guests is_table.ascending is_table.guest_units
    where
      other_key : (n : ChildName) (a : ℕ) (g : Guest) → is_guest n a (guest_entry g) ≡ false → (same_name n g.name && a == g.work.attempt) ≡ false
      other_key n a g t = false_from_ne_true (same_name n g.name && a == g.work.attempt) (λ s.
          let parts = and_parts (same_name n g.name) (a == g.work.attempt) s in
          let name : n ≡ g.name = name_path n g.name parts.0 in
          let attempt : a ≡ g.work.attempt = eqb-true a g.work.attempt parts.1 in
          both_ways (is_guest n a (guest_entry g)) t
          (and_from (same_name g.name n) (g.work.attempt == a) (ap (same_name g.name) name ∙ same_name_self g.name) (eq-eqb g.work.attempt a (sym attempt))))

  unit_there : (unit : WorkUnit) → IsSome (unit_of (table_of site limit own guests) unit) → IsSome (unit_of (table_gets (table_of site limit own guests) (units.Own k) (Done result)) unit)
  unit_there (units.Own j) h = status_there (Done result) es k j ∙ h
  unit_there (units.Guest n a) h = h

  parents_ended : HasParents (table_gets (table_of site limit own guests) (units.Own k) (Done result))
  parents_ended = record {
    lower = λ i j d at p. let b = status_before (Done result) es k i d at in is_table.parents.lower i j b.0 b.1 (sym b.2 ∙ p);
    there = λ i d unit at p. let b = status_before (Done result) es k i d at in unit_there unit (is_table.parents.there i b.0 unit b.1 (sym b.2 ∙ p));
  }

  links_ended : map link_of own_ended ≡ map link_of own
  links_ended = links_kept (with_work_status (Done result)) (λ w. refl) (own_told parent hears own) k ∙ links_told hears (λ w. refl) own parent

  pub ended_kept : IsTable (table_of site limit own_ended guests_ended) own_ended guests_ended
  ended_kept = record {
    small = is_table.small;
    names = subst (λ n. n ≤ limit) (sym (length_changed (with_work_status (Done result)) (own_told parent hears own) k ∙ told_length hears own parent)) is_table.names;
    ascending = subst IsAscending (sym guests_same) is_table.ascending;
    parents = subst HasParents (sym ended_view) parents_ended;
    grown = subst (λ (p : List Link × List Origin). AreGrown p.0 p.1) (λ i. (sym links_ended i, sym (origins_told hears (λ w. refl) (λ w. refl) guests parent) i)) is_table.grown;
    own_units = λ j d at. subst (λ l. IsUnit (units.Own j) d.work l) (sym entries_ended) (own_frame j d at);
    guest_units = subst (λ l. AllByRecursion (λ g. IsUnit (units.Guest g.name g.work.attempt) g.work l) guests_ended) (sym entries_ended) (guest_heard parent refl);
  }

  -- ---- what the frame hears

  pub parent_hears : HearsFrom (parent_work parent own guests)
  parent_hears = go parent refl
    where
      some : (unit : WorkUnit) → parent ≡ Some unit → (o : Option Work) → work_in own guests unit ≡ o → HearsFrom o
      some unit e None at = tt
      some unit e (Some w) at = λ s.
          let frame = (unit_work site limit own guests is_table unit w at).in_step in
          (frame_hearing unit es, frame.split s, some_left unit es k (child_entry there.child) entry_at (parent_self parent unit e) undone)

      go : (p : Option WorkUnit) → parent ≡ p → HearsFrom (parent_work p own guests)
      go None e = tt
      go (Some unit) e = some unit e (work_in own guests unit) refl

  -- a parent is another unit than the child
  same_parent : (unit : WorkUnit) → parent ≡ Some unit → unit_of (table_gets (table_of site limit own guests) (units.Own k) (Done result)) unit ≡ unit_of (table_of site limit own guests) unit
  same_parent (units.Own j) e = status_elsewhere (Done result) es k j (is_table.parents.lower k j (child_entry there.child) entry_at e)
  same_parent (units.Guest n a) e = refl

  pub ended_heard : frame_says (option_map hears (parent_work parent own guests)) ≡ parent_heard (table_gets (table_of site limit own guests) (units.Own k) (Done result)) (units.Own k)
  ended_heard = go parent refl ∙ ap (λ o. heard_at ended (parent_in o)) (sym (status_at (Done result) es k (child_entry there.child) entry_at))
    where
      ended : Table
      ended = table_gets (table_of site limit own guests) (units.Own k) (Done result)

      says : (unit : WorkUnit) (w : Work) → parent ≡ Some unit → IsUnit unit w es → (b : Bool) → is_split w.status ≡ b → cond b (heard_work (hears w).inlet) said.Open ≡ cond b (heard_by (frame_result (frame unit ended.own))) said.Open
      says unit w e h true s = ap heard_work ((told unit w e h).split (split_path w.status s)) ∙ same_heard unit ended.own
      says unit w e h false s = refl

      some : (unit : WorkUnit) → parent ≡ Some unit → (o : Option Work) → work_in own guests unit ≡ o → frame_says (option_map hears o) ≡ cond (has_status is_split (unit_of ended unit)) (heard_by (frame_result (frame unit ended.own))) said.Open
      some unit e None at = ap (λ o. cond (has_status is_split o) (heard_by (frame_result (frame unit ended.own))) said.Open) (sym (same_parent unit e ∙ unit_none site limit own guests unit at))
      some unit e (Some w) at =
          let is_work = unit_work site limit own guests is_table unit w at in
          says unit w e is_work.in_step (is_split w.status) refl
          ∙ ap (λ o. cond (has_status is_split o) (heard_by (frame_result (frame unit ended.own))) said.Open) (sym (same_parent unit e ∙ is_work.is))

      go : (p : Option WorkUnit) → parent ≡ p → frame_says (option_map hears (parent_work p own guests)) ≡ heard_at ended p
      go None e = refl
      go (Some unit) e = some unit e (work_in own guests unit) refl

-- the write of a status, once the frame has heard
pub ended_write : (own heard : List Child) (parent : Option WorkUnit) (f g : Work → Work) (k : ℕ) (c : Child) (w : Work) → w ≡ g c.work → heard ≡ own_told parent f own → k < length own → c ≡ get_or heard k c
    → slice_set heard k (record { parent = c.parent; option = c.option; work = w }) ≡ change_child g (own_told parent f own) k
ended_write own heard parent f g k c w done e h at =
    let within : k < length heard = subst (λ n. k < n) (sym (ap length e ∙ told_length f own parent)) h in
    ap (λ v. slice_set heard k (record { parent = c.parent; option = c.option; work = v })) done ∙ child_set g heard k c within at ∙ ap (λ l. change_child g l k) e
