-- Own children only grow: a name keeps its parent and prefix, its attempt never falls, and a final status stays.
use Rattle.std.proofs.Common.{◌≡◌, ◌≢◌, ◌⊎◌, ℕ, zero, suc, ◌≤◌, Bool, true, List, [], ◌∷◌, ◌++◌, map, Some, slice_get, refl, sym, ap, ◌∙◌, subst, inl, inr, ⊎_elim, true≢false, arith, option_map}
use Rattle.std.proofs.lemmas.Option.{none-some}
use Rattle.cover_problem.proofs.Basics.{get_front}
use Rattle.spawn_frame.specs.declared.child_result.ChildResult.{ChildResult}
use Rattle.spawn_frame.specs.declared.status.Status.{Status}
use Rattle.spawn_frame.specs.declared.status.Status.TheVariants.{Done, Aborted}
use Rattle.spawn_frame.specs.Units.{Entry, with_status, redone, change_at}
use Rattle.spawn_frame.specs.declared.unit.Unit.{Unit as WorkUnit}
use Rattle.spawn_frame.specs.Aborts.{is_open, AbortsBelow}

pub record Grows (c d : Entry) : Type 0 where
  pub parent : d.parent ≡ c.parent
  pub prefix : d.prefix ≡ c.prefix
  pub attempt : c.attempt ≤ d.attempt
  pub done : (r : ChildResult) → c.status ≡ Done r → d.status ≡ Done r
  pub aborted : c.status ≡ Aborted → d.status ≡ Aborted

pub grows_same : (c : Entry) → Grows c c
grows_same c = record { parent = refl; prefix = refl; attempt = omega arith; done = λ r e. e; aborted = λ e. e }

pub grows_then : (b c d : Entry) → Grows b c → Grows c d → Grows b d
grows_then b c d g h = record {
  parent = h.parent ∙ g.parent;
  prefix = h.prefix ∙ g.prefix;
  attempt = omega (arith, g.attempt, h.attempt);
  done = λ r e. h.done r (g.done r e);
  aborted = λ e. h.aborted (g.aborted e);
}

pub not_done : (s : Status) → is_open s ≡ true → (r : ChildResult) → s ≡ Done r → ⊥
not_done s h r e = true≢false (sym h ∙ ap is_open e)

pub not_aborted : (s : Status) → is_open s ≡ true → s ≡ Aborted → ⊥
not_aborted s h e = true≢false (sym h ∙ ap is_open e)

-- an open child may get any status
pub grows_open : (s : Status) (c : Entry) → is_open c.status ≡ true → Grows c (with_status s c)
grows_open s c h = record {
  parent = refl;
  prefix = refl;
  attempt = omega arith;
  done = λ r e. absurd (not_done c.status h r e);
  aborted = λ e. absurd (not_aborted c.status h e);
}

pub grows_redone : (c : Entry) → is_open c.status ≡ true → Grows c (redone c)
grows_redone c h = record {
  parent = refl;
  prefix = refl;
  attempt = omega arith;
  done = λ r e. absurd (not_done c.status h r e);
  aborted = λ e. absurd (not_aborted c.status h e);
}

-- what a child of this serial has grown to
pub record GrownAt (new : List Entry) (k : ℕ) (c : Entry) : Type 0 where
  pub now : Entry
  pub is : slice_get new k ≡ Some now
  pub grows : Grows c now

pub record OwnGrows (old new : List Entry) : Type 0 where
  pub each : (k : ℕ) (c : Entry) → slice_get old k ≡ Some c → GrownAt new k c

pub own_same : (xs : List Entry) → OwnGrows xs xs
own_same xs = record { each = λ k c e. record { now = c; is = e; grows = grows_same c } }

pub own_then : (xs ys zs : List Entry) → OwnGrows xs ys → OwnGrows ys zs → OwnGrows xs zs
own_then xs ys zs g h = record {
  each = λ k c e.
      let a = g.each k c e in
      let b = h.each k a.now a.is in
      record { now = b.now; is = b.is; grows = grows_then c a.now b.now a.grows b.grows };
}

pub own_append : (xs ys : List Entry) → OwnGrows xs (xs ++ ys)
own_append xs ys = record { each = λ k c e. record { now = c; is = get_front xs ys k c e; grows = grows_same c } }

-- what stands at a place after the change of one
pub get_changed : (f : Entry → Entry) (xs : List Entry) (k j : ℕ) (c : Entry) → slice_get xs j ≡ Some c
    → ((j ≡ k) × (slice_get (change_at f xs k) j ≡ Some (f c))) ⊎ ((j ≢ k) × (slice_get (change_at f xs k) j ≡ Some c))
get_changed f [] k j c e = absurd (none-some c e)
get_changed f (x ∷ xs) zero zero c e = inl (refl, ap (option_map f) e)
get_changed f (x ∷ xs) zero (suc j) c e = inr (omega arith, e)
get_changed f (x ∷ xs) (suc k) zero c e = inr (omega arith, e)
get_changed f (x ∷ xs) (suc k) (suc j) c e =
    ⊎_elim
    (λ (h : (j ≡ k) × (slice_get (change_at f xs k) j ≡ Some (f c))). inl (ap suc h.0, h.1))
    (λ (h : (j ≢ k) × (slice_get (change_at f xs k) j ≡ Some c)). inr (omega (arith, h.0), h.1))
    (get_changed f xs k j c e)

pub own_change : (f : Entry → Entry) (xs : List Entry) (k : ℕ) → ((c : Entry) → slice_get xs k ≡ Some c → Grows c (f c)) → OwnGrows xs (change_at f xs k)
own_change f xs k g = record {
  each = λ j c e.
      ⊎_elim
      (λ (h : (j ≡ k) × (slice_get (change_at f xs k) j ≡ Some (f c))).
      record { now = f c; is = h.1; grows = g c (subst (λ i. slice_get xs i ≡ Some c) h.0 e) })
      (λ (h : (j ≢ k) × (slice_get (change_at f xs k) j ≡ Some c)). record { now = c; is = h.1; grows = grows_same c })
      (get_changed f xs k j c e);
}

pub get_mapped : (f : Entry → Entry) (xs : List Entry) (k : ℕ) (c : Entry) → slice_get xs k ≡ Some c → slice_get (map f xs) k ≡ Some (f c)
get_mapped f [] k c e = absurd (none-some c e)
get_mapped f (x ∷ xs) zero c e = ap (option_map f) e
get_mapped f (x ∷ xs) (suc k) c e = get_mapped f xs k c e

pub own_map : (f : Entry → Entry) (xs : List Entry) → ((c : Entry) → Grows c (f c)) → OwnGrows xs (map f xs)
own_map f xs g = record { each = λ k c e. record { now = f c; is = get_mapped f xs k c e; grows = g c } }

pub own_aborts : (top : WorkUnit → Bool) (old new : List Entry) → AbortsBelow top old new → OwnGrows old new
own_aborts top old new a = record {
  each = λ k c e.
      ⊎_elim
      (λ h. record { now = with_status Aborted c; is = h.2; grows = grows_open Aborted c h.1 })
      (λ h. record { now = c; is = h.1; grows = grows_same c })
      (a.each k c e);
}
