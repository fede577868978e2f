-- The parents of the children of a table are there, and stay there.
use Rattle.std.proofs.Common.{◌≡◌, ◌⊎◌, ℕ, zero, suc, ◌<◌, ◌≤◌, Bool, true, false, ◌&&◌, ◌==◌, cond, List, [], ◌∷◌, ◌++◌, length, map, Option, Some, None, is_some, IsSome, slice_get, refl, sym, ap, subst, ◌∙◌, inl, inr, ⊎_elim, arith, option_map}
use Rattle.std.proofs.lemmas.Bool.{false≢true}
use Rattle.std.proofs.lemmas.Option.{none-some, same_Some, slice_get-map, slice_get_within}
use Rattle.node_core.proofs.Reaching.{parents, parents_first}
use Rattle.spawn_frame.specs.Names.{same_name}
use Rattle.spawn_frame.specs.Splits.{new_child}
use Rattle.spawn_frame.specs.Tables.{HasParents, guest_key}
use Rattle.spawn_frame.specs.Units.{Entry, GuestEntry, Table, guest_in, insert_guest, is_guest, table_guests, table_own, unit_of}
use Rattle.spawn_frame.specs.declared.site.ChildName.{ChildName}
use Rattle.spawn_frame.specs.declared.unit.Unit.{Unit as WorkUnit}
use Rattle.spawn_frame.specs.declared.unit.Unit.TheVariants.{Guest, Own}
use Rattle.spawn_frame.proofs.Split.{front_there}
use Rattle.spawn_frame.proofs.Admitted.{there_inserted}

-- ---- tables with the same parents and guests

same_some : {A B : Type 0} (f : A → B) (o : Option A) → is_some (option_map f o) ≡ is_some o
same_some f None = refl
same_some f (Some x) = refl

own_there : (old new : List Entry) → parents new ≡ parents old → (k : ℕ) → is_some (slice_get old k) ≡ is_some (slice_get new k)
own_there old new same k =
    sym (same_some (λ c. c.parent) (slice_get old k))
    ∙ ap is_some (sym (slice_get-map (λ c. c.parent) old k) ∙ ap (λ ps. slice_get ps k) (sym same) ∙ slice_get-map (λ c. c.parent) new k)
    ∙ same_some (λ c. c.parent) (slice_get new k)

abbrev is_key : ChildName → ℕ → (ChildName × ℕ) → Bool
is_key name attempt key = same_name key.0 name && key.1 == attempt

guest_there : (old new : List GuestEntry) → map guest_key new ≡ map guest_key old → (name : ChildName) (attempt : ℕ) → is_some (guest_in old name attempt) ≡ is_some (guest_in new name attempt)
guest_there [] [] same name attempt = refl
guest_there [] (h ∷ hs) same name attempt = absurd (cc)
guest_there (g ∷ gs) [] same name attempt = absurd (cc)
guest_there (g ∷ gs) (h ∷ hs) same name attempt =
    let first : guest_key h ≡ guest_key g = cc in
    let rest : map guest_key hs ≡ map guest_key gs = cc in
    go (is_guest name attempt g) (guest_there gs hs rest name attempt)
    ∙ ap (λ b. is_some (cond b (Some h.entry) (guest_in hs name attempt))) (ap (is_key name attempt) (sym first))
  where
    go : (b : Bool) → is_some (guest_in gs name attempt) ≡ is_some (guest_in hs name attempt)
        → is_some (cond b (Some g.entry) (guest_in gs name attempt)) ≡ is_some (cond b (Some h.entry) (guest_in hs name attempt))
    go true later = refl
    go false later = later

pub unit_there : (old new : Table) → parents new.own ≡ parents old.own → map guest_key new.guests ≡ map guest_key old.guests → (unit : WorkUnit) → IsSome (unit_of old unit) → IsSome (unit_of new unit)
unit_there old new own guests (Own k) h = sym (own_there old.own new.own own k) ∙ h
unit_there old new own guests (Guest name attempt) h = sym (guest_there old.guests new.guests guests name attempt) ∙ h

-- the child at the same place had the same parent
had_parent : (old new : List Entry) → parents new ≡ parents old → (k : ℕ) (c : Entry) → slice_get new k ≡ Some c → (o : Option Entry) → slice_get old k ≡ o → (d : Entry) × (slice_get old k ≡ Some d) × (d.parent ≡ c.parent)
had_parent old new same k c at None is = absurd (false≢true (sym (ap is_some is) ∙ own_there old new same k ∙ ap is_some at))
had_parent old new same k c at (Some d) is = (
  d,
  is,
  same_Some d.parent c.parent
      (sym (ap (option_map (λ x. x.parent)) is) ∙ sym (slice_get-map (λ x. x.parent) old k) ∙ ap (λ ps. slice_get ps k) (sym same) ∙ slice_get-map (λ x. x.parent) new k ∙ ap (option_map (λ x. x.parent)) at),
)

pub parents_same : (old new : Table) → parents new.own ≡ parents old.own → map guest_key new.guests ≡ map guest_key old.guests → HasParents old → HasParents new
parents_same old new own guests h = record {
  lower = parents_first old.own new.own (sym own) h.lower;
  there = λ k c unit at is.
      let d = had_parent old.own new.own own k c at (slice_get old.own k) refl in
      unit_there old new own guests unit (h.there k d.0 unit d.1 (d.2 ∙ is));
}

-- ---- a table with more children

front_or_behind : (xs ys : List Entry) (j : ℕ) (d : Entry) → slice_get (xs ++ ys) j ≡ Some d → (slice_get xs j ≡ Some d) ⊎ ((i : ℕ) × (length xs ≤ j) × (slice_get ys i ≡ Some d))
front_or_behind [] ys j d at = inr (j, omega arith, at)
front_or_behind (x ∷ xs) ys zero d at = inl at
front_or_behind (x ∷ xs) ys (suc j) d at =
    ⊎_elim
    (λ (h : slice_get xs j ≡ Some d). inl h)
    (λ (h : (i : ℕ) × (length xs ≤ j) × (slice_get ys i ≡ Some d)). let l : length xs ≤ j = h.1 in inr (h.0, omega (arith, l), h.2))
    (front_or_behind xs ys j d at)

new_parent : (unit : WorkUnit) (ps : List (List ℕ)) (i : ℕ) (d : Entry) → slice_get (map (λ p. new_child unit p) ps) i ≡ Some d → d.parent ≡ Some unit
new_parent unit [] i d at = absurd (none-some d at)
new_parent unit (p ∷ ps) zero d at = ap (λ x. x.parent) (sym (same_Some (new_child unit p) d at))
new_parent unit (p ∷ ps) (suc i) d at = new_parent unit ps i d at

below_length : (own : List Entry) (j : ℕ) (o : Option Entry) → slice_get own j ≡ o → IsSome o → j < length own
below_length own j None at h = absurd (false≢true h)
below_length own j (Some c) at h = slice_get_within own j c at

module _ (table : Table) (unit : WorkUnit) (ps : List (List ℕ)) where
  abbrev news : List Entry
  news = map (λ p. new_child unit p) ps

  still_there : (u : WorkUnit) → IsSome (unit_of table u) → IsSome (unit_of (table_own table (table.own ++ news)) u)
  still_there (Own k) h = front_there table.own news k h
  still_there (Guest name attempt) h = h

  pub parents_added : HasParents table → IsSome (unit_of table unit) → HasParents (table_own table (table.own ++ news))
  parents_added h here = record {
    lower = λ k j c at is.
        ⊎_elim
        (λ (f : slice_get table.own k ≡ Some c). h.lower k j c f is)
        (λ (b : (i : ℕ) × (length table.own ≤ k) × (slice_get news i ≡ Some c)).
        let e : unit ≡ Own j = same_Some unit (Own j) (sym (new_parent unit ps b.0 c b.2) ∙ is) in
        let l : j < length table.own = below_length table.own j (slice_get table.own j) refl (subst (λ u. IsSome (unit_of table u)) e here) in
        let m : length table.own ≤ k = b.1 in
        omega (arith, l, m))
        (front_or_behind table.own news k c at);
    there = λ k c u at is.
        still_there u
        (⊎_elim
        (λ (f : slice_get table.own k ≡ Some c). h.there k c u f is)
        (λ (b : (i : ℕ) × (length table.own ≤ k) × (slice_get news i ≡ Some c)).
        subst (λ v. IsSome (unit_of table v)) (same_Some unit u (sym (new_parent unit ps b.0 c b.2) ∙ is)) here)
        (front_or_behind table.own news k c at));
  }

-- ---- a table with one guest more

unit_inserted : (table : Table) (new : GuestEntry) (u : WorkUnit) → IsSome (unit_of table u) → IsSome (unit_of (table_guests table (insert_guest new table.guests)) u)
unit_inserted table new (Own k) h = h
unit_inserted table new (Guest name attempt) h = there_inserted new table.guests name attempt h

pub parents_inserted : (table : Table) (new : GuestEntry) → HasParents table → HasParents (table_guests table (insert_guest new table.guests))
parents_inserted table new h = record {
  lower = h.lower;
  there = λ k c u at is. unit_inserted table new u (h.there k c u at is);
}
