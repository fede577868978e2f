-- The uncovered items as bits of words.
use Rattle.std.proofs.Common.{◌≡◌, ℕ, ◌+◌, ◌-◌, ◌/◌, ◌%◌, ◌<◌, ◌≤◌, ◌==◌, List, length, get_or, slice_get, slice_index, Bool, false, true, not, nat_lt, Some, refl, arith, sym, ap, ◌∙◌, inl, inr, subst, take_all}
use Rattle.std.specs.Int.{bit_at}
use Rattle.std.proofs.Math.Nat.{div-eq_of_lt, mod-eq_of_lt}
use Rattle.std.proofs.lemmas.Bool.{both_ways, cases_Bool, cases_lt, eq-eqb, ne_eqb, le-ltb, lt-ltb}
use Rattle.std.proofs.lemmas.Option.{slice_get-get_or}
use Rattle.cover_problem.specs.Prefix.{is_covered}
use Rattle.cover_problem.specs.Problem.{Problem}
use Rattle.choices.specs.Keys.{has_bit, TellUncovered}
use Rattle.item_planes.specs.declared.planes.Planes.{Planes}
use Rattle.live_sets.specs.declared.plane_counts.PlaneCounts.{PlaneCounts}
use Rattle.live_sets.specs.Counting.{AreMarked}
use Rattle.live_sets.specs.Planes.{ArePlanes, ArePlaneCounts}

pub not_not : (b : Bool) → not (not b) ≡ b
not_not true = refl
not_not false = refl

-- the planes of the last level
pub planes_last : (p : Problem) (os : List ℕ) (counts : PlaneCounts) (planes : Planes) → ArePlaneCounts p os counts → length os ≤ p.primary → planes ≡ get_or counts.planes.items (length os) planes → ArePlanes p os counts.first planes
planes_last p os counts planes are room here =
    let inside : length os < length counts.planes.items = omega (arith, room, are.long) in
    let at : slice_get counts.planes.items (length os) ≡ Some planes = slice_get-get_or counts.planes.items (length os) planes inside ∙ ap Some (sym here) in
    let L : List ℕ → Type 0 = λ xs. ArePlanes p xs counts.first planes in
    subst L (take_all (length os) os (omega arith)) (are.each (length os) (omega arith) planes at)

bit_here : (p : Problem) (prefix : List ℕ) (first i : ℕ) (planes : Planes) → ArePlanes p prefix first planes → i < 64 → first + i < p.primary → (bit_at planes.uncovered i == 1) ≡ not (is_covered p prefix (first + i))
bit_here p prefix first i planes are low inside = elim (cases_Bool (is_covered p prefix (first + i))) [
  | inl hit ↦ ne_eqb (bit_at planes.uncovered i) 1 (λ h. both_ways (is_covered p prefix (first + i)) ((are.uncovered i low).0 h).1 hit) ∙ sym (ap not hit)
  | inr bare ↦ eq-eqb (bit_at planes.uncovered i) 1 ((are.uncovered i low).1 (inside, bare)) ∙ sym (ap not bare)
]

-- the bit of an item in planes
plane_bit : (p : Problem) (prefix : List ℕ) (first i item : ℕ) (planes : Planes) → ArePlanes p prefix first planes → i < 64 → first + i ≡ item → item < p.primary → (bit_at planes.uncovered i == 1) ≡ not (is_covered p prefix item)
plane_bit p prefix first i item planes are low at inside =
    let I : ℕ → Type 0 = λ n. (bit_at planes.uncovered i == 1) ≡ not (is_covered p prefix n) in
    subst I at (bit_here p prefix first i planes are low (omega (arith, at, inside)))

-- one word
pub plane_tells : (p : Problem) (prefix words : List ℕ) (planes : Planes) → p.primary ≤ 64 → ArePlanes p prefix 0 planes → slice_index words 0 ≡ planes.uncovered → TellUncovered p prefix words
plane_tells p prefix words planes few are word = λ item inside.
    let low : item < 64 = omega (arith, inside, few) in
    let bit = ap (λ w. bit_at w item == 1) word ∙ plane_bit p prefix 0 item item planes are low (omega arith) inside in
    let P : ℕ → Type 0 = λ place. (bit_at (slice_index words place) item == 1) ≡ not (is_covered p prefix item) in
    let Q : ℕ → Type 0 = λ b. (bit_at (slice_index words (item / 64)) b == 1) ≡ not (is_covered p prefix item) in
    subst Q (sym (mod-eq_of_lt low)) (subst P (sym (div-eq_of_lt low)) bit)

-- two words
pub planes_tell : (p : Problem) (prefix words : List ℕ) (low high : Planes) → p.primary ≤ 128 → ArePlanes p prefix 0 low → ArePlanes p prefix 64 high → slice_index words 0 ≡ low.uncovered → slice_index words 1 ≡ high.uncovered → TellUncovered p prefix words
planes_tell p prefix words low high few are_low are_high first second = λ item inside.
    let P : ℕ → Type 0 = λ place. (bit_at (slice_index words place) (item % 64) == 1) ≡ not (is_covered p prefix item) in
    elim (cases_lt item 64) [
      | inl less ↦
          let Q : ℕ → Type 0 = λ b. (bit_at (slice_index words 0) b == 1) ≡ not (is_covered p prefix item) in
          let bit = ap (λ w. bit_at w item == 1) first ∙ plane_bit p prefix 0 item item low are_low less (omega arith) inside in
          subst P (sym (div-eq_of_lt less)) (subst Q (sym (mod-eq_of_lt less)) bit)
      | inr more ↦
          let Q : ℕ → Type 0 = λ b. (bit_at (slice_index words 1) b == 1) ≡ not (is_covered p prefix item) in
          let back : 64 + (item - 64) ≡ item = omega (arith, more) in
          let bit = ap (λ w. bit_at w (item - 64) == 1) second ∙ plane_bit p prefix 64 (item - 64) item high are_high (omega (arith, inside, few)) back inside in
          let place : item / 64 ≡ 1 = omega (arith, more, inside, few) in
          let rest : item % 64 ≡ item - 64 = omega (arith, more, inside, few) in
          subst P (sym place) (subst Q (sym rest) bit)
    ]

-- by marks
pub marked_tells : (p : Problem) (prefix keys words : List ℕ) → AreMarked p prefix keys → ((item : ℕ) → item < length keys → has_bit words item ≡ nat_lt (slice_index keys item) 2147483648) → TellUncovered p prefix words
marked_tells p prefix keys words are bits = λ item inside.
    let at = bits item (omega (arith, inside, are.count)) in
    elim (cases_Bool (is_covered p prefix item)) [
      | inl hit ↦ at ∙ le-ltb (slice_index keys item) 2147483648 ((are.each item inside).covered hit) ∙ sym (ap not hit)
      | inr bare ↦ at ∙ lt-ltb (slice_index keys item) 2147483648 ((are.each item inside).uncovered bare) ∙ sym (ap not bare)
    ]
