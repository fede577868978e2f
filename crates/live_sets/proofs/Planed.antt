-- The branch item is the uncovered one with the least count.
use Rattle.std.proofs.Common.{◌≡◌, ℕ, ◌+◌, ◌-◌, ◌<◌, ◌≤◌, ◌↔◌, List, [], ◌∷◌, ◌++◌, length, take, set, get_or, slice_get, Bool, false, true, ◌&&◌, ◌||◌, nat_lt, Option, Some, IfSome, refl, arith, sym, ap, ◌∙◌, inl, inr, subst, length-append}
use Rattle.std.specs.Int.{bit_at}
use Rattle.std.proofs.lemmas.Bool.{cases_lt, cases_eq, cases_Bool, both_ways, eq-eqb, ne_eqb, lt-ltb, or_left, or_right}
use Rattle.std.proofs.lemmas.List.{take-append-le, take_all, get_or-set_same, get_or-set_other, length-set}
use Rattle.std.proofs.lemmas.Option.{slice_get-get_or}
use Rattle.std.proofs.lemmas.Nat.Bits.{bit_at-lt, bit_at-zero}
use Rattle.cover_problem.specs.Branching.{live_options, IsOpen}
use Rattle.cover_problem.specs.Prefix.{is_covered}
use Rattle.cover_problem.specs.Problem.{Problem, names_item}
use Rattle.cover_problem.proofs.Prefixes.{covered_more}
use Rattle.item_planes.specs.declared.planes.Planes.{Planes}
use Rattle.item_planes.specs.Counts.{count_at, IsLeast}
use Rattle.live_sets.specs.declared.plane_counts.PlaneCounts.{PlaneCounts}
use Rattle.live_sets.specs.Planes.{AreMasks, ArePlanes, ArePlaneCounts, IsFewestOf, IsMask}

pub count_small : (planes : Planes) (i : ℕ) → count_at planes i < 256
count_small planes i =
    omega (arith, bit_at-lt planes.ones i, bit_at-lt planes.twos i, bit_at-lt planes.fours i, bit_at-lt planes.eights i, bit_at-lt planes.sixteens i, bit_at-lt planes.thirty_twos i, bit_at-lt planes.sixty_fours i, bit_at-lt planes.one_twenty_eights i)

-- the first of the fewest of 64 items from a first one on
pub planes_fewest : (p : Problem) (prefix : List ℕ) (first : ℕ) (planes : Planes) (i count : ℕ) → ArePlanes p prefix first planes → IsLeast planes i count → IsFewestOf p prefix first (first + i) count
planes_fewest p prefix first planes i count are is =
    let here = (are.uncovered i is.inside).0 is.uncovered in
    let own = are.counted i is.inside here.0 in
    let bit : (k : ℕ) → k < 64 → IsOpen p prefix (first + k) → bit_at planes.uncovered k ≡ 1 = λ k low o. (are.uncovered k low).1 (o.primary, o.uncovered) in
    let count_of : ℕ → ℕ = λ n. length (live_options p prefix n) in
    record {
      is_open = record { primary = here.0; uncovered = here.1 };
      counted = omega (arith, own, is.counted);
      from = omega arith;
      inside = omega (arith, is.inside);
      fewest = λ other from inside o.
          let k : ℕ = other - first in
          let low : other - first < 64 = omega (arith, from, inside) in
          let e : first + (other - first) ≡ other = omega (arith, from) in
          let at : IsOpen p prefix (first + (other - first)) = subst (IsOpen p prefix) (sym e) o in
          omega (arith, ap count_of e, are.counted (other - first) low at.primary, is.least (other - first) low (bit (other - first) low at));
      before = λ other from less o.
          let low : other - first < 64 = omega (arith, from, less, is.inside) in
          let e : first + (other - first) ≡ other = omega (arith, from) in
          let at : IsOpen p prefix (first + (other - first)) = subst (IsOpen p prefix) (sym e) o in
          elim (cases_eq (count_at planes (other - first)) count) [
            | inl same ↦ absurd (omega (arith, less, from, is.first (other - first) low (bit (other - first) low at) same))
            | inr more ↦ omega (arith, more, ap count_of e, are.counted (other - first) low at.primary, is.least (other - first) low (bit (other - first) low at))
          ];
    }

-- none of them is uncovered
pub planes_none : (p : Problem) (prefix : List ℕ) (first : ℕ) (planes : Planes) → ArePlanes p prefix first planes → planes.uncovered ≡ 0
    → (other : ℕ) → first ≤ other → other < first + 64 → other < p.primary → is_covered p prefix other ≡ true
planes_none p prefix first planes are none other from inside primary = elim (cases_Bool (is_covered p prefix other)) [
  | inl hit ↦ hit
  | inr bare ↦
      let low : other - first < 64 = omega (arith, from, inside) in
      let e : first + (other - first) ≡ other = omega (arith, from) in
      absurd (omega (arith, (are.uncovered (other - first) low).1 (omega (arith, e, primary), ap (is_covered p prefix) e ∙ bare), ap (λ n. bit_at n (other - first)) none, bit_at-zero (other - first)))
]

-- which items are uncovered with one more option
pub uncovered_next : (p : Problem) (prefix : List ℕ) (o mask first i : ℕ) (old new : Planes) → i < 64 → ArePlanes p prefix first old → IsMask p first o mask
    → ((bit_at new.uncovered i ≡ 1) ↔ ((bit_at old.uncovered i ≡ 1) × (bit_at mask i ≡ 0)))
    → (bit_at new.uncovered i ≡ 1) ↔ ((first + i < p.primary) × (is_covered p (prefix ++ o ∷ []) (first + i) ≡ false))
uncovered_next p prefix o mask first i old new low are is bit =
    let both = covered_more p prefix o (first + i) in (
      (λ here.
          let parts = bit.0 here in
          let was = (are.uncovered i low).0 parts.0 in
          let named : names_item p o (first + i) ≡ false = unnamed was.0 (sym (is i low) ∙ ne_eqb (bit_at mask i) 1 (λ h. omega (arith, h, parts.1))) in
          (was.0, both ∙ ap (λ b. b || (names_item p o (first + i) || false)) was.1 ∙ ap (λ b. false || (b || false)) named)),
      (λ now. elim (cases_Bool (is_covered p prefix (first + i))) [
        | inl hit ↦ absurd (both_ways (is_covered p (prefix ++ o ∷ []) (first + i)) now.1 (both ∙ or_left (is_covered p prefix (first + i)) (names_item p o (first + i) || false) hit))
        | inr bare ↦ elim (cases_eq (bit_at mask i) 1) [
          | inl named ↦
              let is_named : names_item p o (first + i) ≡ true = and_right_true (nat_lt (first + i) p.primary) (names_item p o (first + i)) (sym (is i low) ∙ eq-eqb (bit_at mask i) 1 named) in
              absurd (both_ways (is_covered p (prefix ++ o ∷ []) (first + i)) now.1 (both ∙ or_right (is_covered p prefix (first + i)) (names_item p o (first + i) || false) (or_left (names_item p o (first + i)) false is_named)))
          | inr other ↦ bit.1 ((are.uncovered i low).1 (now.0, bare), omega (arith, other, bit_at-lt mask i))
        ]
      ]),
    )
  where
    unnamed : first + i < p.primary → (nat_lt (first + i) p.primary && names_item p o (first + i)) ≡ false → names_item p o (first + i) ≡ false
    unnamed inside none = sym (ap (λ b. b && names_item p o (first + i)) (lt-ltb (first + i) p.primary inside)) ∙ none

    and_right_true : (a b : Bool) → (a && b) ≡ true → b ≡ true
    and_right_true true b h = h
    and_right_true false b h = absurd (both_ways false refl h)

-- the planes of the levels with one more
pub planes_push : (p : Problem) (os : List ℕ) (o : ℕ) (old new : PlaneCounts) (next : Planes) → ArePlaneCounts p os old → length os < p.primary
    → new.first ≡ old.first → new.masks.items ≡ old.masks.items → new.planes.items ≡ set old.planes.items (length os + 1) next → ArePlanes p (os ++ o ∷ []) old.first next → ArePlaneCounts p (os ++ o ∷ []) new
planes_push p os o old new next are room first masks planes last = record {
  masks =
      let M : List ℕ → Type 0 = λ ms. AreMasks p new.first ms in
      let F : ℕ → Type 0 = λ n. AreMasks p n old.masks.items in
      subst M (sym masks) (subst F (sym first) are.masks);
  long = ap length planes ∙ length-set old.planes.items (length os + 1) next ∙ are.long;
  each = λ e le its at.
      let L : List ℕ → Type 0 = λ xs. ArePlanes p xs new.first its in
      let F : List ℕ → ℕ → Type 0 = λ xs n. ArePlanes p xs n its in
      let inside : length os + 1 < length old.planes.items = omega (arith, room, are.long) in
      elim (cases_lt (length os) e) [
        | inl past ↦
            let same : e ≡ length os + 1 = omega (arith, past, le, length-append os (o ∷ [])) in
            let found : Some next ≡ Some its =
            sym (slice_get-get_or (set old.planes.items (length os + 1) next) (length os + 1) next (omega (arith, inside, length-set old.planes.items (length os + 1) next)) ∙ ap Some (get_or-set_same old.planes.items (length os + 1) next next inside))
            ∙ ap (λ (ps : List Planes). slice_get ps (length os + 1)) (sym planes) ∙ ap (slice_get new.planes.items) (sym same) ∙ at in
            let P : Option Planes → Type 0 = λ r. IfSome r (λ it. ArePlanes p (os ++ o ∷ []) old.first it) in
            subst L (sym (take_all e (os ++ o ∷ []) (omega (arith, same, length-append os (o ∷ []))))) (subst (F (os ++ o ∷ [])) (sym first) (subst P found last))
        | inr inside_e ↦
            let within : e < length old.planes.items = omega (arith, inside_e, inside) in
            let kept : slice_get old.planes.items e ≡ Some its =
            slice_get-get_or old.planes.items e next within
            ∙ ap Some (sym (get_or-set_other old.planes.items (length os + 1) e next next (λ h. omega (arith, h, inside_e))))
            ∙ sym (slice_get-get_or (set old.planes.items (length os + 1) next) e next (omega (arith, within, length-set old.planes.items (length os + 1) next)))
            ∙ ap (λ (ps : List Planes). slice_get ps e) (sym planes) ∙ at in
            subst L (sym (take-append-le e os (o ∷ []) inside_e)) (subst (F (take e os)) (sym first) (are.each e inside_e its kept))
      ];
}

-- the planes with one more option, which covers its items
pub planes_next : (p : Problem) (os : List ℕ) (o mask first : ℕ) (old half new : Planes) → ArePlanes p os first old → IsMask p first o mask → half.uncovered ≡ old.uncovered
    → ((i : ℕ) → i < 64 → (bit_at new.uncovered i ≡ 1) ↔ ((bit_at half.uncovered i ≡ 1) × (bit_at mask i ≡ 0)))
    → ((i : ℕ) → i < 64 → count_at new i ≡ count_at half i)
    → ((i : ℕ) → i < 64 → first + i < p.primary → count_at half i ≡ length (live_options p (os ++ o ∷ []) (first + i)))
    → ArePlanes p (os ++ o ∷ []) first new
planes_next p os o mask first old half new are is same covers kept counted = record {
  uncovered = λ i low.
      let B : ℕ → Type 0 = λ n. (bit_at new.uncovered i ≡ 1) ↔ ((bit_at n i ≡ 1) × (bit_at mask i ≡ 0)) in
      uncovered_next p os o mask first i old new low are is (subst B same (covers i low));
  counted = λ i low primary. kept i low ∙ counted i low primary;
}

-- what the last level is, before one more
pub planes_here : (p : Problem) (os : List ℕ) (counts : PlaneCounts) (planes : Planes) → ArePlaneCounts p os counts → length os < p.primary → planes ≡ get_or counts.planes.items (length os) planes → ArePlanes p os counts.first planes
planes_here p os counts planes are room here =
    let inside : length os < length counts.planes.items = omega (arith, room, are.long) in
    let at : slice_get counts.planes.items (length os) ≡ Some planes = slice_get-get_or counts.planes.items (length os) planes inside ∙ ap Some (sym here) in
    let L : List ℕ → Type 0 = λ xs. ArePlanes p xs counts.first planes in
    subst L (take_all (length os) os (omega arith)) (are.each (length os) (omega arith) planes at)
