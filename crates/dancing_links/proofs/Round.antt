-- The nodes of a row in turn, as two ranges: those after a node, and those before it.
use Rattle.std.proofs.Common.{◌≡◌, ℕ, zero, suc, ◌+◌, ◌-◌, ◌<◌, ◌≤◌, List, [], ◌∷◌, ◌++◌, true, false, ◌==◌, ◌||◌, refl, arith, sym, ap, ◌∙◌, inl, inr}
use Rattle.std.specs.List.{range_with_len}
use Rattle.std.proofs.lemmas.Bool.{eq-eqb, ne_eqb, eqb-true, cases_Bool, cases_eq, cases_lt, both_ways, or_cases, or_left, or_right}
use Rattle.dancing_links.specs.Columns.{among, Columns, begin_of, end_of}
use Rattle.dancing_links.specs.Covering.{in_turn, others}

in_turn_straight : (b e s n : ℕ) → s + n ≤ e → in_turn b e s n ≡ range_with_len s n
in_turn_straight b e s zero h = refl
in_turn_straight b e s (suc n) h = elim (cases_eq (s + 1) e) [
  | inl last ↦ let none : n ≡ 0 = omega (arith, h, last) in rw none refl
  | inr ne ↦ rw (ne_eqb (s + 1) e ne) (ap (λ ks. s ∷ ks) (in_turn_straight b e (s + 1) n (omega (arith, h))))
]

in_turn_round : (b e s n m : ℕ) → s + suc n ≡ e → b + m ≤ e → in_turn b e s (suc n + m) ≡ range_with_len s (suc n) ++ range_with_len b m
in_turn_round b e s zero m h fits =
    let count : suc zero + m ≡ suc m = omega arith in
    let last : s + 1 ≡ e = omega (arith, h) in
    rw (count, eq-eqb (s + 1) e last) (ap (λ ks. s ∷ ks) (in_turn_straight b e b m fits))
in_turn_round b e s (suc n) m h fits =
    let count : suc (suc n) + m ≡ suc (suc n + m) = omega arith in
    rw (count, ne_eqb (s + 1) e (λ f. omega (arith, h, f))) (ap (λ ks. s ∷ ks) (in_turn_round b e (s + 1) n m (omega (arith, h)) fits))

-- the others of a node in its row
pub others_ranges : (c : Columns) (node : ℕ) → begin_of c node ≤ node → node < end_of c node → others c node ≡ range_with_len (node + 1) (end_of c node - (node + 1)) ++ range_with_len (begin_of c node) (node - begin_of c node)
unfolding others
others_ranges c node low high =
    let b : ℕ = begin_of c node in
    let e : ℕ = end_of c node in
    elim (cases_eq (node + 1) (end_of c node)) [
      | inl last ↦
          let none : end_of c node - (node + 1) ≡ 0 = omega (arith, last) in
          let count : end_of c node - (begin_of c node + 1) ≡ node - begin_of c node = omega (arith, last) in
          rw (eq-eqb (node + 1) (end_of c node) last, count, none) (in_turn_straight b e b (node - b) (omega (arith, low, high)))
      | inr ne ↦
          let n : ℕ = end_of c node - (node + 2) in
          let after : end_of c node - (node + 1) ≡ suc (end_of c node - (node + 2)) = omega (arith, high, ne) in
          let count : end_of c node - (begin_of c node + 1) ≡ suc (end_of c node - (node + 2)) + (node - begin_of c node) = omega (arith, low, high, ne) in
          rw (ne_eqb (node + 1) (end_of c node) ne, count, after) (in_turn_round b e (node + 1) n (node - b) (omega (arith, high, ne)) (omega (arith, low, high)))
    ]

-- whether a number is in one of two lists
pub among-append : (xs ys : List ℕ) (k : ℕ) → among (xs ++ ys) k ≡ (among xs k || among ys k)
among-append [] ys k = refl
among-append (x ∷ xs) ys k = elim (cases_Bool (x == k)) [
  | inl t ↦ rw t refl
  | inr f ↦ rw f (among-append xs ys k)
]

pub range_at : (n s k : ℕ) → among (range_with_len s n) k ≡ true → (s ≤ k) × (k < s + n)
range_at zero s k h = absurd (both_ways false refl h)
range_at (suc n) s k h = elim (or_cases (s == k) (among (range_with_len (s + 1) n) k) h) [
  | inl t ↦ let e = eqb-true s k t in (omega (arith, e), omega (arith, e))
  | inr t ↦ let rest = range_at n (s + 1) k t in (omega (arith, rest.0), omega (arith, rest.1))
]

range_has : (n s k : ℕ) → s ≤ k → k < s + n → among (range_with_len s n) k ≡ true
range_has zero s k low high = absurd (omega (arith, low, high))
range_has (suc n) s k low high = elim (cases_eq s k) [
  | inl e ↦ or_left (s == k) (among (range_with_len (s + 1) n) k) (eq-eqb s k e)
  | inr ne ↦ or_right (s == k) (among (range_with_len (s + 1) n) k) (range_has n (s + 1) k (omega (arith, low, ne)) (omega (arith, high)))
]

-- a number that is among the others of a node
pub others_at : (c : Columns) (node k : ℕ) → begin_of c node ≤ node → node < end_of c node → among (others c node) k ≡ true → (begin_of c node ≤ k) × (k < end_of c node) × (k ≡ node → ⊥)
others_at c node k low high h =
    let after : List ℕ = range_with_len (node + 1) (end_of c node - (node + 1)) in
    let before : List ℕ = range_with_len (begin_of c node) (node - begin_of c node) in
    let either = sym (among-append after before k) ∙ sym (ap (λ (ks : List ℕ). among ks k) (others_ranges c node low high)) ∙ h in
    elim (or_cases (among after k) (among before k) either) [
      | inl t ↦ let at = range_at (end_of c node - (node + 1)) (node + 1) k t in (omega (arith, at.0, low), omega (arith, at.1, at.0), λ e. omega (arith, at.0, e))
      | inr t ↦ let at = range_at (node - begin_of c node) (begin_of c node) k t in (at.0, omega (arith, at.1, low, high), λ e. omega (arith, at.1, e, low))
    ]

-- and each number of the row but the node's is
pub others_has : (c : Columns) (node k : ℕ) → begin_of c node ≤ node → node < end_of c node → begin_of c node ≤ k → k < end_of c node → (k ≡ node → ⊥) → among (others c node) k ≡ true
others_has c node k low high above below ne =
    let after : List ℕ = range_with_len (node + 1) (end_of c node - (node + 1)) in
    let before : List ℕ = range_with_len (begin_of c node) (node - begin_of c node) in
    let both = ap (λ (ks : List ℕ). among ks k) (others_ranges c node low high) ∙ among-append after before k in
    both ∙ elim (cases_lt k node) [
      | inl less ↦ or_right (among after k) (among before k) (range_has (node - begin_of c node) (begin_of c node) k above (omega (arith, less)))
      | inr more ↦ or_left (among after k) (among before k) (range_has (end_of c node - (node + 1)) (node + 1) k (omega (arith, more, ne)) (omega (arith, below, more, ne)))
    ]
