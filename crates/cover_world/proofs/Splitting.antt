-- A unit that is split, a guest that is admitted, and guests that are dropped.
use Rattle.std.proofs.Common.{◌≡◌, ◌⊎◌, ℕ, zero, suc, Bool, true, false, ◌&&◌, List, [], ◌∷◌, ◌++◌, map, Option, Some, None, slice_get, refl, sym, ap, ◌∙◌, subst, inl, inr, ⊎_elim, append-nil}
use Rattle.std.proofs.lemmas.Option.{same_Some, none-some}
use Rattle.cover_problem.specs.Problem.{Problem}
use Rattle.cover_problem.specs.Branching.{branch_item, children}
use Rattle.spawn_frame.specs.declared.site.ChildName.{ChildName}
use Rattle.spawn_frame.specs.declared.unit.Unit.{Unit as WorkUnit}
use Rattle.spawn_frame.specs.declared.unit.Unit.TheVariants.{Own, Guest}
use Rattle.spawn_frame.specs.declared.child_result.ChildResult.TheVariants.{Empty}
use Rattle.spawn_frame.specs.declared.status.Status.{Status}
use Rattle.spawn_frame.specs.declared.status.Status.TheVariants.{Ready, Here, Split, Out, Done, Aborted, Finished}
use Rattle.spawn_frame.specs.Units.{Entry, GuestEntry, guest_in, with_status, insert_guest}
use Rattle.node_core.specs.SiteView.{View, unit_in, with_own, with_guests, unit_gets}
use Rattle.spawn_frame.specs.Names.{same_unit}
use Rattle.spawn_frame.specs.Aborts.{is_open}
use Rattle.node_core.specs.Results.{split_up}
use Rattle.spawn_frame.specs.Splits.{new_child}
use Rattle.cover_world.proofs.Guests.{every_inserted, every_dropped}
use Rattle.cover_world.proofs.Frames.{shapes, prefixes, same_prefixes, prefixes-append, prefixes_of_new, prefixes_of_others, no_child, gets_same, gets_other, inserted_guest, inserted_none, if_lost, lost_entry, dropped_guest}
use Rattle.cover_world.proofs.Sound.{Sound, IsSplitUp, IsWhole, FrameOf, Hopes, whole_moves, gets_moves, own_hopeless, guest_hopes}
use Rattle.steal_return.specs.Members.{drop_lost}
use Rattle.steal_return.specs.Steals.{is_older}
use Rattle.spawn_frame.proofs.Sames.{unit_path}

-- ---- lists with more at the end

pub append_back : (xs ys : List Entry) (k : ℕ) (d : Entry) → slice_get (xs ++ ys) k ≡ Some d → (slice_get xs k ≡ Some d) ⊎ ((j : ℕ) × (slice_get ys j ≡ Some d) × (slice_get xs k ≡ None))
append_back [] ys k d at = inr (k, at, refl)
append_back (x ∷ xs) ys zero d at = inl at
append_back (x ∷ xs) ys (suc k) d at = append_back xs ys k d at

append_none : (xs ys : List Entry) (k : ℕ) → slice_get (xs ++ ys) k ≡ None → slice_get xs k ≡ None
append_none [] ys k at = refl
append_none (x ∷ xs) ys zero at = at
append_none (x ∷ xs) ys (suc k) at = append_none xs ys k at

new_back : (unit : WorkUnit) (ps : List (List ℕ)) (k : ℕ) (d : Entry) → slice_get (map (λ p. new_child unit p) ps) k ≡ Some d → (p : List ℕ) × (d ≡ new_child unit p)
new_back unit [] k d at = absurd (none-some d at)
new_back unit (p ∷ ps) zero d at = (p, sym (same_Some (new_child unit p) d at))
new_back unit (p ∷ ps) (suc k) d at = new_back unit ps k d at

-- ---- a split

module _ (problem : Problem) (view : View) (sound : Sound problem view) (unit : WorkUnit) (entry : Entry) (is : unit_in view unit ≡ Some entry) (here : entry.status ≡ Here)
    (item : ℕ) (branch : branch_item problem entry.prefix ≡ Some item) where
  mid : View
  mid = unit_gets view unit Split

  more : List Entry
  more = map (λ p. new_child unit p) (children problem entry.prefix)

  whole : IsWhole unit view.own
  whole = subst (λ s. FrameOf problem view.own unit entry.prefix s) here (sound.frames unit entry is)

  mid_shapes : shapes mid.own ≡ shapes view.own
  unfolding mid
  mid_shapes = (gets_moves view unit Split (λ e. cc)).shaped

  mid_is : unit_in mid unit ≡ Some (with_status Split entry)
  unfolding mid
  mid_is = gets_same view unit Split entry is

  -- every unit is one of before, or a new child
  found : (u : WorkUnit) (e : Entry) → unit_in (with_own mid (mid.own ++ more)) u ≡ Some e → (unit_in mid u ≡ Some e) ⊎ ((unit_in mid u ≡ None) × ((p : List ℕ) × (e ≡ new_child unit p)))
  unfolding more
  found (Own k) e at =
      ⊎_elim
      (λ (h : slice_get mid.own k ≡ Some e). inl h)
      (λ (h : (j : ℕ) × (slice_get more j ≡ Some e) × (slice_get mid.own k ≡ None)). inr (h.2, new_back unit (children problem entry.prefix) h.0 e h.1))
      (append_back mid.own more k e at)
  found (Guest m b) e at = inl at

  not_found : (u : WorkUnit) → unit_in (with_own mid (mid.own ++ more)) u ≡ None → unit_in mid u ≡ None
  not_found (Own k) at = append_none mid.own more k at
  not_found (Guest m b) at = at

  -- a new child is not aborted
  fresh : (k : ℕ) (d : Entry) → slice_get (mid.own ++ more) k ≡ Some d → d.status ≡ Aborted → slice_get mid.own k ≡ Some d
  unfolding more
  fresh k d at a =
      ⊎_elim
      (λ (h : slice_get mid.own k ≡ Some d). h)
      (λ (h : (j : ℕ) × (slice_get more j ≡ Some d) × (slice_get mid.own k ≡ None)).
      let p = new_back unit (children problem entry.prefix) h.0 d h.1 in
      absurd (let e : Ready ≡ Aborted = ap (λ x. x.status) (sym p.1) ∙ a in cc))
      (append_back mid.own more k d at)

  -- other units have no child more
  others : (u : WorkUnit) → same_unit unit u ≡ false → prefixes u (mid.own ++ more) ≡ prefixes u view.own
  unfolding more
  others u d =
      prefixes-append u mid.own more ∙ ap (λ l. prefixes u mid.own ++ l) (prefixes_of_others unit u (children problem entry.prefix) d)
      ∙ append-nil (prefixes u mid.own) ∙ same_prefixes u view.own mid.own mid_shapes

  frame_more : (u : WorkUnit) (prefix : List ℕ) (s : Status) → same_unit unit u ≡ false → FrameOf problem view.own u prefix s → FrameOf problem (mid.own ++ more) u prefix s
  unfolding mid
  frame_more u prefix Ready d h = others u d ∙ h
  frame_more u prefix Here d h = others u d ∙ h
  frame_more u prefix (Out thief) d h = others u d ∙ h
  frame_more u prefix Split d h = record {
    item = h.item;
    branch = h.branch;
    children_are = others u d ∙ h.children_are;
    going = λ k c at p a.
        let was = (gets_moves view unit Split (λ e. cc)).aborted k c (fresh k c at a) a in
        h.going k was.0 was.1 (was.2 ∙ p) was.3;
  }
  frame_more u prefix (Done r) d h = tt
  frame_more u prefix _ d h = tt

  pub sound_splits : Sound problem (split_up problem view unit entry.prefix)
  unfolding mid more
  sound_splits = record {
    unmade = λ u at. unmade u (same_unit unit u) refl (not_found u at);
    frames = λ u e at. framed u e (same_unit unit u) refl (found u e at);
    hopeless = λ k d at done. ⊎_elim
        (λ (h : slice_get mid.own k ≡ Some d). own_hopeless problem view sound unit Split entry is tt k d h done)
        (λ (h : (j : ℕ) × (slice_get more j ≡ Some d) × (slice_get mid.own k ≡ None)).
        let p = new_back unit (children problem entry.prefix) h.0 d h.1 in
        absurd (let e : Ready ≡ Done Empty = ap (λ x. x.status) (sym p.1) ∙ done in cc))
        (append_back mid.own more k d at);
    guests = guest_hopes problem view sound unit Split entry is tt;
  }
    where
      unmade : (u : WorkUnit) (t : Bool) → same_unit unit u ≡ t → unit_in mid u ≡ None → IsWhole u (mid.own ++ more)
      unmade u true t at = absurd (none-some (with_status Split entry) (sym at ∙ ap (unit_in mid) (sym (unit_path unit u t)) ∙ mid_is))
      unmade u false t at = others u t ∙ sound.unmade u (sym (gets_other view unit u Split t) ∙ at)

      framed : (u : WorkUnit) (e : Entry) (t : Bool) → same_unit unit u ≡ t → (unit_in mid u ≡ Some e) ⊎ ((unit_in mid u ≡ None) × ((p : List ℕ) × (e ≡ new_child unit p))) → FrameOf problem (mid.own ++ more) u e.prefix e.status
      framed u e true t at =
          let u_is : unit_in mid u ≡ Some (with_status Split entry) = ap (unit_in mid) (sym (unit_path unit u t)) ∙ mid_is in
          ⊎_elim
          (λ (h : unit_in mid u ≡ Some e).
          let same : with_status Split entry ≡ e = same_Some (with_status Split entry) e (sym u_is ∙ h) in
          let none_yet : IsWhole u mid.own = whole_moves u view.own mid.own mid_shapes (subst (λ v. IsWhole v view.own) (unit_path unit u t) whole) in
          let up : IsSplitUp problem (mid.own ++ more) u entry.prefix = record {
            item = item;
            branch = branch;
            children_are = prefixes-append u mid.own more ∙ (λ i. none_yet i ++ prefixes_of_new unit u (children problem entry.prefix) t i);
            going = λ k c at' p a. no_child u mid.own none_yet k c (fresh k c at' a) p;
          } in
          subst (λ x. FrameOf problem (mid.own ++ more) u x.prefix x.status) same up)
          (λ (h : (unit_in mid u ≡ None) × ((p : List ℕ) × (e ≡ new_child unit p))). absurd (none-some (with_status Split entry) (sym h.0 ∙ u_is)))
          at
      framed u e false t at =
          ⊎_elim
          (λ (h : unit_in mid u ≡ Some e). frame_more u e.prefix e.status t (sound.frames u e (sym (gets_other view unit u Split t) ∙ h)))
          (λ (h : (unit_in mid u ≡ None) × ((p : List ℕ) × (e ≡ new_child unit p))).
          let none_yet : IsWhole u (mid.own ++ more) = others u t ∙ sound.unmade u (sym (gets_other view unit u Split t) ∙ h.0) in
          subst (λ x. FrameOf problem (mid.own ++ more) u x.prefix x.status) (sym h.1.1) none_yet)
          at

-- ---- a new guest

pub sound_admits : (problem : Problem) (view : View) → Sound problem view → (g : GuestEntry) → g.entry.status ≡ Ready → guest_in view.guests g.name g.entry.attempt ≡ None
    → Sound problem (with_guests view (insert_guest g view.guests))
sound_admits problem view sound g ready is_new = record {
  unmade = unmade;
  frames = frames;
  hopeless = sound.hopeless;
  guests = every_inserted (Hopes problem) g view.guests (λ e. absurd (let h : Ready ≡ Finished Empty = sym ready ∙ e in cc)) sound.guests;
}
  where
    unmade : (u : WorkUnit) → unit_in (with_guests view (insert_guest g view.guests)) u ≡ None → IsWhole u view.own
    unmade (Own k) at = sound.unmade (Own k) at
    unmade (Guest m b) at = sound.unmade (Guest m b) (inserted_none g view.guests m b at)

    frames : (u : WorkUnit) (e : Entry) → unit_in (with_guests view (insert_guest g view.guests)) u ≡ Some e → FrameOf problem view.own u e.prefix e.status
    frames (Own k) e at = sound.frames (Own k) e at
    frames (Guest m b) e at =
        ⊎_elim
        (λ (h : (e ≡ g.entry) × (same_unit (Guest g.name g.entry.attempt) (Guest m b) ≡ true)).
        let whole : IsWhole (Guest m b) view.own = subst (λ u. IsWhole u view.own) (unit_path (Guest g.name g.entry.attempt) (Guest m b) h.1) (sound.unmade (Guest g.name g.entry.attempt) is_new) in
        subst (λ s. FrameOf problem view.own (Guest m b) e.prefix s) (sym ready ∙ ap (λ x. x.status) (sym h.0)) whole)
        (λ (h : guest_in view.guests m b ≡ Some e). sound.frames (Guest m b) e h)
        (inserted_guest g view.guests m b e at)

-- ---- guests whose owner is lost

lost_none : (known : List ℕ) (m : ChildName) (o : Option Entry) → lost_entry known m o ≡ None → o ≡ None
lost_none known m None e = refl
lost_none known m (Some x) e = absurd (none-some _ (sym e))

pub lost_some : (known : List ℕ) (m : ChildName) (o : Option Entry) (d : Entry) → lost_entry known m o ≡ Some d → (e : Entry) × (o ≡ Some e) × (d ≡ if_lost (is_older known m.site && is_open e.status) e)
lost_some known m None d e = absurd (none-some d e)
lost_some known m (Some x) d e = (x, refl, sym (same_Some _ d e))

pub sound_drops : (problem : Problem) (view : View) → Sound problem view → (known : List ℕ) → Sound problem (with_guests view (drop_lost known view.guests))
sound_drops problem view sound known = record {
  unmade = unmade;
  frames = frames;
  hopeless = sound.hopeless;
  guests = every_dropped (Hopes problem) known view.guests (λ g h e. absurd (cc)) sound.guests;
}
  where
    unmade : (u : WorkUnit) → unit_in (with_guests view (drop_lost known view.guests)) u ≡ None → IsWhole u view.own
    unmade (Own k) at = sound.unmade (Own k) at
    unmade (Guest m b) at = sound.unmade (Guest m b) (lost_none known m _ (sym (dropped_guest known view.guests m b) ∙ at))

    by_loss : (m : ChildName) (b : ℕ) (e : Entry) (t : Bool) → FrameOf problem view.own (Guest m b) e.prefix e.status → FrameOf problem view.own (Guest m b) (if_lost t e).prefix (if_lost t e).status
    by_loss m b e true h = tt
    by_loss m b e false h = h

    frames : (u : WorkUnit) (e : Entry) → unit_in (with_guests view (drop_lost known view.guests)) u ≡ Some e → FrameOf problem view.own u e.prefix e.status
    frames (Own k) e at = sound.frames (Own k) e at
    frames (Guest m b) d at =
        let e = lost_some known m (guest_in view.guests m b) d (sym (dropped_guest known view.guests m b) ∙ at) in
        subst (λ x. FrameOf problem view.own (Guest m b) x.prefix x.status) (sym e.2)
        (by_loss m b e.0 _ (sound.frames (Guest m b) e.0 e.1))
