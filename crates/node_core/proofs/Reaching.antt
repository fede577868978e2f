-- What is below some units can be told, since parents are made before their children; so there is an abort of it.
use Rattle.std.proofs.Common.{◌≡◌, ◌⊎◌, ℕ, zero, suc, ◌+◌, ◌<◌, Bool, true, false, ◌&&◌, cond, List, [], ◌∷◌, length, map, Option, Some, None, slice_get, refl, sym, ap, subst, ◌∙◌, inl, inr, ⊎_elim, arith, true≢false}
use Rattle.std.proofs.lemmas.Option.{none-some, same_Some, slice_get-map}
use Rattle.std.specs.Option.{option_map}
use Rattle.spawn_frame.specs.Aborts.{AbortsBelow, IsBelow, child, deeper, is_open}
use Rattle.spawn_frame.specs.Units.{Entry, change_at, with_status}
use Rattle.spawn_frame.specs.declared.status.Status.TheVariants.{Aborted}
use Rattle.spawn_frame.specs.declared.unit.Unit.{Unit as WorkUnit}
use Rattle.spawn_frame.specs.declared.unit.Unit.TheVariants.{Guest, Own}

-- an own parent was made before its child
abbrev pub ParentsFirst : List Entry → Type 0
ParentsFirst own = (k j : ℕ) (c : Entry) → slice_get own k ≡ Some c → c.parent ≡ Some (Own j) → j < k

-- ---- lists of the same parents

abbrev pub parents : List Entry → List (Option WorkUnit)
parents own = map (λ c. c.parent) own

was_there : (o : Option Entry) (p : Option WorkUnit) → option_map (λ c. c.parent) o ≡ Some p → (d : Entry) × (o ≡ Some d) × (d.parent ≡ p)
was_there None p e = absurd (none-some p e)
was_there (Some d) p e = (d, refl, same_Some d.parent p e)

pub parents_first : (old new : List Entry) → parents old ≡ parents new → ParentsFirst old → ParentsFirst new
parents_first old new same first k j c at is =
    let there : option_map (λ e. e.parent) (slice_get old k) ≡ Some c.parent =
    sym (slice_get-map (λ e. e.parent) old k) ∙ ap (λ ps. slice_get ps k) same ∙ slice_get-map (λ e. e.parent) new k ∙ ap (option_map (λ e. e.parent)) at in
    let d = was_there (slice_get old k) c.parent there in
    first k j d.0 d.1 (d.2 ∙ is)

pub parents_changed : (f : Entry → Entry) → ((c : Entry) → c.parent ≡ (f c).parent) → (own : List Entry) (k : ℕ) → parents own ≡ parents (change_at f own k)
parents_changed f same [] k = refl
parents_changed f same (c ∷ cs) zero = λ i. same c i ∷ parents cs
parents_changed f same (c ∷ cs) (suc k) = λ i. c.parent ∷ parents_changed f same cs k i

-- ---- what is below can be told

-- it is so or not
abbrev pub Either : Type 0 → Type 0
Either P = P ⊎ (P → ⊥)

-- a child of this parent is below
abbrev pub FromParent : (WorkUnit → Bool) → List Entry → Option WorkUnit → Type 0
FromParent top own None = ⊥
FromParent top own (Some (Own j)) = (top (Own j) ≡ true) ⊎ IsBelow top own j
FromParent top own (Some (Guest name attempt)) = top (Guest name attempt) ≡ true

module _ (top : WorkUnit → Bool) (own : List Entry) where
  below_by : (k : ℕ) (c : Entry) → slice_get own k ≡ Some c → (p : Option WorkUnit) → c.parent ≡ p → FromParent top own p → IsBelow top own k
  below_by k c at None is h = absurd h
  below_by k c at (Some (Own j)) is (inl t) = child at is t
  below_by k c at (Some (Own j)) is (inr b) = deeper at is b
  below_by k c at (Some (Guest name attempt)) is t = child at is t

  topped : (unit : WorkUnit) → top unit ≡ true → FromParent top own (Some unit)
  topped (Own j) t = inl t
  topped (Guest name attempt) t = t

  by_below : (k : ℕ) (c : Entry) → slice_get own k ≡ Some c → IsBelow top own k → FromParent top own c.parent
  by_below k c at (child {entry = f} {unit = u} there is t) =
      subst (FromParent top own) (sym (ap (λ e. e.parent) (same_Some c f (sym at ∙ there)) ∙ is)) (topped u t)
  by_below k c at (deeper {parent = j} {entry = f} there is b) =
      subst (FromParent top own) (sym (ap (λ e. e.parent) (same_Some c f (sym at ∙ there)) ∙ is)) (inr b)

  nothing_below : (k : ℕ) → slice_get own k ≡ None → IsBelow top own k → ⊥
  nothing_below k at (child {entry = f} there is t) = none-some f (sym at ∙ there)
  nothing_below k at (deeper {entry = f} there is b) = none-some f (sym at ∙ there)

  parent_told : (p : Option WorkUnit) → ((j : ℕ) → p ≡ Some (Own j) → Either (IsBelow top own j)) → Either (FromParent top own p)
  parent_told None told = inr (λ h. h)
  parent_told (Some (Own j)) told = by (top (Own j)) refl (told j refl)
    where
      by : (b : Bool) → top (Own j) ≡ b → Either (IsBelow top own j) → Either (FromParent top own (Some (Own j)))
      by true t d = inl (inl t)
      by false t (inl b) = inl (inr b)
      by false t (inr n) = inr (⊎_elim (λ (h : top (Own j) ≡ true). true≢false (sym h ∙ t)) n)
  parent_told (Some (Guest name attempt)) told = by (top (Guest name attempt)) refl
    where
      by : (b : Bool) → top (Guest name attempt) ≡ b → Either (top (Guest name attempt) ≡ true)
      by true t = inl t
      by false t = inr (λ h. true≢false (sym h ∙ t))

  entry_told : (k : ℕ) (o : Option Entry) → slice_get own k ≡ o → ((c : Entry) (j : ℕ) → slice_get own k ≡ Some c → c.parent ≡ Some (Own j) → Either (IsBelow top own j)) → Either (IsBelow top own k)
  entry_told k None at told = inr (nothing_below k at)
  entry_told k (Some c) at told = by (parent_told c.parent (λ j is. told c j at is))
    where
      by : Either (FromParent top own c.parent) → Either (IsBelow top own k)
      by (inl h) = inl (below_by k c at c.parent refl h)
      by (inr n) = inr (λ b. n (by_below k c at b))

  below_told : ParentsFirst own → (bound k : ℕ) → k < bound → Either (IsBelow top own k)
  below_told first zero k less = absurd (omega (arith, less))
  below_told first (suc bound) k less =
      entry_told k (slice_get own k) refl (λ c j at is. below_told first bound j (omega (arith, less, first k j c at is)))

-- ---- so there is an abort

abbrev pub said : {P : Type 0} → Either P → Bool
said (inl h) = true
said (inr n) = false

-- the entry, aborted where the test says so and it is open
abbrev pub aborted_if : Bool → Entry → Entry
aborted_if b c = cond (b && is_open c.status) (with_status Aborted c) c

-- the children from serial k on, those aborted of which the test says so
abbrev pub aborted_from : (ℕ → Bool) → ℕ → List Entry → List Entry
aborted_from test k [] = []
aborted_from test k (c ∷ cs) = aborted_if (test k) c ∷ aborted_from test (suc k) cs

aborted_at : (test : ℕ → Bool) (i k j : ℕ) (own : List Entry) (c : Entry) → i + k ≡ j → slice_get own k ≡ Some c → slice_get (aborted_from test i own) k ≡ Some (aborted_if (test j) c)
aborted_at test i k j [] c e at = absurd (none-some c at)
aborted_at test i zero j (d ∷ ds) c e at =
    let same : i ≡ j = omega (arith, e) in
    ap (λ n. Some (aborted_if (test n) d)) same ∙ ap (λ x. Some (aborted_if (test j) x)) (same_Some d c at)
aborted_at test i (suc k) j (d ∷ ds) c e at = aborted_at test (suc i) k j ds c (omega (arith, e)) at

aborted_length : (test : ℕ → Bool) (i : ℕ) (own : List Entry) → length (aborted_from test i own) ≡ length own
aborted_length test i [] = refl
aborted_length test i (c ∷ cs) = ap suc (aborted_length test (suc i) cs)

-- an abort of what is below some units
abbrev pub AnAbort : (WorkUnit → Bool) → List Entry → Type 0
AnAbort top own = (new : List Entry) × AbortsBelow top own new

one_aborted : (top : WorkUnit → Bool) (own new : List Entry) (k : ℕ) (c : Entry) (d : Either (IsBelow top own k)) (o : Bool) → is_open c.status ≡ o
    → slice_get new k ≡ Some (cond (said d && o) (with_status Aborted c) c)
    → (IsBelow top own k × (is_open c.status ≡ true) × (slice_get new k ≡ Some (with_status Aborted c)))
    ⊎ ((IsBelow top own k → is_open c.status ≡ true → ⊥) × (slice_get new k ≡ Some c))
one_aborted top own new k c (inl b) true is at = inl (b, is, at)
one_aborted top own new k c (inl b) false is at = inr ((λ h still. true≢false (sym still ∙ is)), at)
one_aborted top own new k c (inr n) o is at = inr ((λ h still. n h), at)

pub an_abort : (top : WorkUnit → Bool) (own : List Entry) → ParentsFirst own → AnAbort top own
an_abort top own first = (
  aborted_from test 0 own,
  record {
    each = λ k c at. one_aborted top own (aborted_from test 0 own) k c (told k) (is_open c.status) refl (aborted_at test 0 k k own c (omega arith) at);
    ends = aborted_length test 0 own;
  },
)
  where
    told : (k : ℕ) → Either (IsBelow top own k)
    told k = below_told top own first (suc k) k (omega arith)

    test : ℕ → Bool
    test k = said (told k)
