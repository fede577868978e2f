-- A list with one element set, and what stands in lists.
use Rattle.std.proofs.Common.{◌≡◌, ◌≢◌, ◌⊎◌, ℕ, zero, suc, ◌<◌, List, [], ◌∷◌, ◌++◌, length, Some, slice_get, slice_set, refl, ap, inl, inr, ⊎_elim, arith}
use Rattle.std.proofs.lemmas.Option.{same_Some, none-some}

pub get_set : {X : Type 0} (xs : List X) (i : ℕ) (v : X) (j : ℕ) (x : X) → slice_get xs j ≡ Some x
    → ((j ≡ i) × (slice_get (slice_set xs i v) j ≡ Some v)) ⊎ ((j ≢ i) × (slice_get (slice_set xs i v) j ≡ Some x))
get_set [] i v j x e = absurd (none-some x e)
get_set (y ∷ ys) zero v zero x e = inl (refl, refl)
get_set (y ∷ ys) zero v (suc j) x e = inr (omega arith, e)
get_set (y ∷ ys) (suc i) v zero x e = inr (omega arith, e)
get_set (y ∷ ys) (suc i) v (suc j) x e =
    ⊎_elim
    (λ (h : (j ≡ i) × (slice_get (slice_set ys i v) j ≡ Some v)). inl (ap suc h.0, h.1))
    (λ (h : (j ≢ i) × (slice_get (slice_set ys i v) j ≡ Some x)). inr (omega (arith, h.0), h.1))
    (get_set ys i v j x e)

pub set_get : {X : Type 0} (xs : List X) (i : ℕ) (v : X) (j : ℕ) (y : X) → slice_get (slice_set xs i v) j ≡ Some y
    → ((j ≡ i) × (v ≡ y)) ⊎ ((j ≢ i) × (slice_get xs j ≡ Some y))
set_get [] i v j y e = absurd (none-some y e)
set_get (x ∷ xs) zero v zero y e = inl (refl, same_Some v y e)
set_get (x ∷ xs) zero v (suc j) y e = inr (omega arith, e)
set_get (x ∷ xs) (suc i) v zero y e = inr (omega arith, e)
set_get (x ∷ xs) (suc i) v (suc j) y e =
    ⊎_elim
    (λ (h : (j ≡ i) × (v ≡ y)). inl (ap suc h.0, h.1))
    (λ (h : (j ≢ i) × (slice_get xs j ≡ Some y)). inr (omega (arith, h.0), h.1))
    (set_get xs i v j y e)

-- what is set stands where it was set
pub set_here : {X : Type 0} (xs : List X) (k : ℕ) (v x : X) → slice_get xs k ≡ Some x → slice_get (slice_set xs k v) k ≡ Some v
set_here xs k v x e =
    ⊎_elim
    (λ (h : (k ≡ k) × (slice_get (slice_set xs k v) k ≡ Some v)). h.1)
    (λ (h : (k ≢ k) × (slice_get (slice_set xs k v) k ≡ Some x)). absurd (h.0 refl))
    (get_set xs k v k x e)

-- ---- what stands somewhere in a list

abbrev pub In : {X : Type 0} → X → List X → Type 0
In x xs = (i : ℕ) × (slice_get xs i ≡ Some x)

at_left : {X : Type 0} (x : X) (xs ys : List X) (i : ℕ) → slice_get xs i ≡ Some x → slice_get (xs ++ ys) i ≡ Some x
at_left x [] ys i e = absurd (none-some x e)
at_left x (z ∷ zs) ys zero e = e
at_left x (z ∷ zs) ys (suc i) e = at_left x zs ys i e

pub in_left : {X : Type 0} (x : X) (xs ys : List X) → In x xs → In x (xs ++ ys)
in_left x xs ys h = (h.0, at_left x xs ys h.0 h.1)

pub in_right : {X : Type 0} (x : X) (xs ys : List X) → In x ys → In x (xs ++ ys)
in_right x [] ys h = h
in_right x (z ∷ zs) ys h = let r = in_right x zs ys h in (suc r.0, r.1)

pub in_split : {X : Type 0} (x : X) (xs ys : List X) (i : ℕ) → slice_get (xs ++ ys) i ≡ Some x → In x xs ⊎ In x ys
in_split x [] ys i e = inr (i, e)
in_split x (z ∷ zs) ys zero e = inl (0, e)
in_split x (z ∷ zs) ys (suc i) e =
    ⊎_elim
    (λ (h : In x zs). inl (suc h.0, h.1))
    (λ (h : In x ys). inr h)
    (in_split x zs ys i e)

pub within : {X : Type 0} (xs : List X) (k : ℕ) (x : X) → slice_get xs k ≡ Some x → k < length xs
within [] k x e = absurd (none-some x e)
within (y ∷ ys) zero x e = omega arith
within (y ∷ ys) (suc k) x e = omega (arith, within ys k x e)
