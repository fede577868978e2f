-- What is below the units, by the marks, and by other lists of the same parents.
use Rattle.std.proofs.Common.{◌≡◌, ◌⊎◌, ℕ, zero, suc, ◌<◌, Bool, true, false, ◌||◌, if◌then◌else◌, List, [], ◌∷◌, length, drop, map, Option, Some, None, get_or, slice_get, refl, sym, ap, ◌∙◌, inl, inr, arith}
use Rattle.std.proofs.lemmas.Bool.{true≢false}
use Rattle.std.proofs.lemmas.Option.{same_Some, none-some, slice_get-get_or}
use Rattle.spawn_frame.specs.Aborts.{AbortsBelow, IsBelow, child, deeper, is_open}
use Rattle.spawn_frame.specs.Names.{same_unit}
use Rattle.spawn_frame.specs.Units.{Entry, with_status}
use Rattle.spawn_frame.specs.declared.status.Status.TheVariants.{Aborted}
use Rattle.spawn_frame.specs.declared.unit.Unit.{Unit as WorkUnit}
use Rattle.abort_tree.specs.Below.{MarksBelow, abort_if, aborted, is_among}

-- an own child after the abort of the marked ones
aborted_at : (marks : List Bool) (own : List Entry) (k : ℕ) (c : Entry) (m : Bool) → slice_get own k ≡ Some c → slice_get marks k ≡ Some m → slice_get (aborted marks own) k ≡ Some (abort_if m c)
aborted_at [] own k c m at mark = absurd (none-some m mark)
aborted_at (n ∷ ns) [] k c m at mark = absurd (none-some c at)
aborted_at (n ∷ ns) (d ∷ ds) zero c m at mark = ap (λ b. Some (abort_if b d)) (same_Some n m mark) ∙ ap (λ e. Some (abort_if m e)) (same_Some d c at)
aborted_at (n ∷ ns) (d ∷ ds) (suc k) c m at mark = aborted_at ns ds k c m at mark

aborted_length : (marks : List Bool) (own : List Entry) → length (aborted marks own) ≡ length own
aborted_length [] own = refl
aborted_length (m ∷ ms) [] = refl
aborted_length (m ∷ ms) (c ∷ cs) = ap suc (aborted_length ms cs)

-- where there is something, the place is within the list
within : {X : Type 0} (xs : List X) (k : ℕ) (x : X) → slice_get xs k ≡ Some x → k < length xs
within [] k x at = absurd (none-some x at)
within (y ∷ ys) zero x at = omega arith
within (y ∷ ys) (suc k) x at = omega (arith, within ys k x at)

module _ (top : WorkUnit → Bool) (own : List Entry) (marks : List Bool) (are : MarksBelow top own marks) where
  one : (k : ℕ) (c : Entry) (m : Bool) → slice_get own k ≡ Some c → slice_get marks k ≡ Some m → (o : Bool) → is_open c.status ≡ o
      → (IsBelow top own k × (is_open c.status ≡ true) × (slice_get (aborted marks own) k ≡ Some (with_status Aborted c)))
      ⊎ ((IsBelow top own k → is_open c.status ≡ true → ⊥) × (slice_get (aborted marks own) k ≡ Some c))
  one k c true at mark true is = inl (are.marked k mark, is, aborted_at marks own k c true at mark ∙ ap (λ o. Some (if o then with_status Aborted c else c)) is)
  one k c true at mark false is = inr ((λ below still. true≢false (sym still ∙ is)), aborted_at marks own k c true at mark ∙ ap (λ o. Some (if o then with_status Aborted c else c)) is)
  one k c false at mark o is = inr ((λ below still. are.unmarked k mark below), aborted_at marks own k c false at mark)

  pub aborts_marked : AbortsBelow top own (aborted marks own)
  aborts_marked = record {
    each = λ k c at.
        let mark = slice_get-get_or marks k false (omega (arith, within own k c at, are.one_each)) in
        one k c (get_or marks k false) at mark (is_open c.status) refl;
    ends = aborted_length marks own;
  }

-- another list of the same parents has as many
same_length : (old new : List Entry) → map (λ c. c.parent) old ≡ map (λ c. c.parent) new → length old ≡ length new
same_length [] [] same = refl
same_length [] (d ∷ ds) same = absurd (omega (arith, ap length same))
same_length (c ∷ cs) [] same = absurd (omega (arith, ap length same))
same_length (c ∷ cs) (d ∷ ds) same = ap suc (same_length cs ds (ap (drop 1) same))

-- and at each place one of that parent
record IsThere (new : List Entry) (k : ℕ) (parent : Option WorkUnit) : Type 0 where
  pub entry : Entry
  pub at : slice_get new k ≡ Some entry
  pub same : entry.parent ≡ parent

there : (old new : List Entry) → map (λ c. c.parent) old ≡ map (λ c. c.parent) new → (k : ℕ) (c : Entry) → slice_get old k ≡ Some c → IsThere new k c.parent
there [] new same k c at = absurd (none-some c at)
there (o ∷ os) [] same k c at = absurd (omega (arith, ap length same))
there (o ∷ os) (n ∷ ns) same zero c at = record { entry = n; at = refl; same = sym (ap (λ ps. get_or ps 0 None) same) ∙ ap (λ e. e.parent) (same_Some o c at) }
there (o ∷ os) (n ∷ ns) same (suc k) c at =
    let found = there os ns (ap (drop 1) same) k c at in
    record { entry = found.entry; at = found.at; same = found.same }

below_there : (top : WorkUnit → Bool) (old new : List Entry) → map (λ c. c.parent) old ≡ map (λ c. c.parent) new → (k : ℕ) → IsBelow top old k → IsBelow top new k
below_there top old new same k (child {entry = c} at is t) =
    let found = there old new same k c at in
    child found.at (found.same ∙ is) t
below_there top old new same k (deeper {parent = j} {entry = c} at is below) =
    let found = there old new same k c at in
    deeper found.at (found.same ∙ is) (below_there top old new same j below)

pub marks_there : (top : WorkUnit → Bool) (old new : List Entry) (marks : List Bool) → map (λ c. c.parent) old ≡ map (λ c. c.parent) new → MarksBelow top old marks → MarksBelow top new marks
marks_there top old new marks same are = record {
  one_each = are.one_each ∙ same_length old new same;
  marked = λ k mark. below_there top old new same k (are.marked k mark);
  unmarked = λ k mark below. are.unmarked k mark (below_there top new old (sym same) k below);
}

-- tests that pass the same units
below_both : (first second : WorkUnit → Bool) (own : List Entry) → ((unit : WorkUnit) → first unit ≡ second unit) → (k : ℕ) → IsBelow first own k → IsBelow second own k
below_both first second own same k (child {unit = u} at is t) = child at is (sym (same u) ∙ t)
below_both first second own same k (deeper {parent = j} at is below) = deeper at is (below_both first second own same j below)

pub aborts_both : (first second : WorkUnit → Bool) (old new : List Entry) → ((unit : WorkUnit) → first unit ≡ second unit) → AbortsBelow first old new → AbortsBelow second old new
aborts_both first second old new same aborts = record {
  each = λ k c at. elim (aborts.each k c at) [
    | inl was ↦ inl (below_both first second old same k was.0, was.1, was.2)
    | inr was ↦ inr ((λ below still. was.0 (below_both second first old (λ u. sym (same u)) k below) still), was.1)
  ];
  ends = aborts.ends;
}

-- one unit is among a list of it alone
pub among_one : (unit other : WorkUnit) → is_among (unit ∷ []) other ≡ same_unit unit other
among_one unit other = or_false (same_unit unit other)
  where
    or_false : (b : Bool) → (b || false) ≡ b
    or_false true = refl
    or_false false = refl
