-- The items of options as bits, and how many options of a word name an item.
use Rattle.std.proofs.Common.{◌≡◌, ℕ, suc, ◌+◌, ◌-◌, ◌*◌, ◌%◌, ◌^◌, ◌<◌, ◌≤◌, List, length, take, get_or, filter, Bool, nat_lt, ◌==◌, ◌&&◌, ◌||◌, bit_and, bit_or, count_by, refl, arith, sym, ap, ◌∙◌, inl, inr, w64}
use Rattle.std.specs.List.{range_with_len}
use Rattle.std.specs.Int.{bit_at, bit_not}
use Rattle.std.proofs.lemmas.Bool.{cases_eq, cases_lt, eq-eqb, ne_eqb, lt-ltb, le-ltb}
use Rattle.std.proofs.lemmas.List.Folds.{list_any_more}
use Rattle.std.proofs.lemmas.Nat.{and_le_l}
use Rattle.std.proofs.lemmas.Nat.Bits.{bit_at-lt, bit_at-zero, bit_at_clear_same, bit_at_clear_other}
use Rattle.cover_problem.specs.Numbers.{is_in}
use Rattle.cover_problem.specs.Problem.{Problem, items_of}
use Rattle.cover_problem.proofs.Sets.{in_filtered}
use Rattle.option_sets.proofs.Bits.{bit_of_or, bit_of_one}
use Rattle.live_sets.specs.Planes.{named_in, IsMask}
use Rattle.live_sets.proofs.Counted.{one, step, count_same, count_none, count_split}

pub bit_one : (m i : ℕ) → one (bit_at m i == 1) ≡ bit_at m i
bit_one m i = elim (cases_eq (bit_at m i) 1) [
  | inl e ↦ rw (eq-eqb (bit_at m i) 1 e) (sym e)
  | inr d ↦ rw (ne_eqb (bit_at m i) 1 d) (omega (arith, d, bit_at-lt m i))
]

-- a word without options
pub named_none : (masks : List ℕ) (place i : ℕ) → named_in masks place 0 i ≡ 0
unfolding named_in
named_none masks place i =
    count_none (λ k. bit_at 0 k == 1 && bit_at (get_or masks (place * 64 + k) 0) i == 1) 0 64
    (λ k low. rw (ne_eqb (bit_at 0 (0 + k)) 1 (λ h. omega (arith, h, bit_at-zero (0 + k)))) refl)

-- one option less
pub named_less : (masks : List ℕ) (place bits b i : ℕ) → b < 64 → bit_at bits b ≡ 1
    → named_in masks place bits i ≡ named_in masks place (bit_and bits (bit_not w64 (1 * 2 ^ b % 2 ^ 64))) i + bit_at (get_or masks (place * 64 + b) 0) i
unfolding named_in
named_less masks place bits b i inside here =
    let cut : ℕ = bit_and bits (bit_not w64 (1 * 2 ^ b % 2 ^ 64)) in
    let m : ℕ → Bool = λ k. bit_at (get_or masks (place * 64 + k) 0) i == 1 in
    let f : ℕ → Bool = λ k. bit_at bits k == 1 && m k in
    let g : ℕ → Bool = λ k. bit_at cut k == 1 && m k in
    let r : ℕ = 63 - b in
    let e : 64 ≡ b + suc r = omega (arith, inside) in
    let other : (k : ℕ) → k < 64 → (k ≡ b → ⊥) → f k ≡ g k = λ k low d. ap (λ n. n == 1 && m k) (sym (bit_at_clear_other w64 bits b inside k low d)) in
    let before = count_same f g 0 b (λ k low. other (0 + k) (omega (arith, low, inside)) (λ h. omega (arith, h, low))) in
    let behind = count_same f g (0 + b + 1) r (λ k low. other (0 + b + 1 + k) (omega (arith, low, inside)) (λ h. omega (arith, h))) in
    let at : 0 + b ≡ b = omega arith in
    let own : one (f (0 + b)) ≡ bit_at (get_or masks (place * 64 + b) 0) i =
    ap (λ k. one (f k)) at ∙ ap (λ t. one (t && m b)) (eq-eqb (bit_at bits b) 1 here) ∙ bit_one (get_or masks (place * 64 + b) 0) i in
    let gone : one (g (0 + b)) ≡ 0 =
    ap (λ k. one (g k)) at ∙ ap (λ t. one (t && m b)) (ne_eqb (bit_at cut b) 1 (λ h. omega (arith, h, bit_at_clear_same w64 bits b inside))) in
    let whole : count_by f (range_with_len 0 64) ≡ count_by f (range_with_len 0 (b + suc r)) = ap (λ n. count_by f (range_with_len 0 n)) e in
    let less : count_by g (range_with_len 0 64) ≡ count_by g (range_with_len 0 (b + suc r)) = ap (λ n. count_by g (range_with_len 0 n)) e in
    omega (arith, whole, less, count_split f 0 b (suc r), count_split g 0 b (suc r), step f (0 + b) r, step g (0 + b) r, before, behind, own, gone)

-- fewer bits are a lesser number
pub cut_less : (bits b : ℕ) → b < 64 → bit_at bits b ≡ 1 → bit_and bits (bit_not w64 (1 * 2 ^ b % 2 ^ 64)) < bits
cut_less bits b inside here =
    let cut : ℕ = bit_and bits (bit_not w64 (1 * 2 ^ b % 2 ^ 64)) in
    let le = and_le_l bits (bit_not w64 (1 * 2 ^ b % 2 ^ 64)) in
    let gone = bit_at_clear_same w64 bits b inside in
    elim (cases_eq cut bits) [
      | inl same ↦ absurd (omega (arith, here, gone, ap (λ n. bit_at n b) same))
      | inr other ↦ omega (arith, le, other)
    ]

-- what is left after one less was there before
pub cut_part : (bits b k : ℕ) → b < 64 → k < 64 → bit_at (bit_and bits (bit_not w64 (1 * 2 ^ b % 2 ^ 64))) k ≡ 1 → bit_at bits k ≡ 1
cut_part bits b k inside low here = elim (cases_eq k b) [
  | inl same ↦ absurd (omega (arith, here, ap (bit_at (bit_and bits (bit_not w64 (1 * 2 ^ b % 2 ^ 64)))) same, bit_at_clear_same w64 bits b inside))
  | inr other ↦ omega (arith, here, bit_at_clear_other w64 bits b inside k low other)
]

-- one item more
pub mask_more : (items : List ℕ) (mask bits n first i : ℕ) → n < length items → (bit_at mask i == 1) ≡ is_in (take n items) (first + i) → (bit_at bits i == 1) ≡ (get_or items n 0 == first + i)
    → (bit_at (bit_or mask bits) i == 1) ≡ is_in (take (n + 1) items) (first + i)
mask_more items mask bits n first i inside before own =
    bit_of_or mask bits i
    ∙ ap (λ t. t || (bit_at bits i == 1)) before
    ∙ ap (λ t. is_in (take n items) (first + i) || t) own
    ∙ sym (list_any_more (λ m. m == first + i) items n 0 inside)

-- an item as a bit
pub bit_inside : (item first i : ℕ) → first ≤ item → item - first < 64 → i < 64 → (bit_at (1 * 2 ^ (item - first) % 2 ^ 64) i == 1) ≡ (item == first + i)
bit_inside item first i from low inside = bit_of_one (item - first) i low inside ∙ elim (cases_eq item (first + i)) [
  | inl e ↦ rw (eq-eqb i (item - first) (omega (arith, e)), eq-eqb item (first + i) e) refl
  | inr d ↦ rw (ne_eqb i (item - first) (λ e. d (omega (arith, e, from))), ne_eqb item (first + i) d) refl
]

pub bit_outside : (item first i : ℕ) → (item ≡ first + i → ⊥) → (bit_at 0 i == 1) ≡ (item == first + i)
bit_outside item first i off = rw (ne_eqb (bit_at 0 i) 1 (λ h. omega (arith, h, bit_at-zero i)), ne_eqb item (first + i) off) refl

-- the primary items of an option
pub mask_is : (p : Problem) (first o mask : ℕ) (items : List ℕ) → items ≡ filter (λ i. nat_lt i p.primary) (items_of p o) → ((i : ℕ) → i < 64 → (bit_at mask i == 1) ≡ is_in items (first + i)) → IsMask p first o mask
mask_is p first o mask items are bits i low =
    bits i low ∙ ap (λ (is : List ℕ). is_in is (first + i)) are ∙ in_filtered (λ i. nat_lt i p.primary) (items_of p o) (first + i)

-- which bits of a word below a number of them are
pub below_from : (primary first i : ℕ) → nat_lt i (primary - first) ≡ nat_lt (first + i) primary
below_from primary first i = elim (cases_lt (first + i) primary) [
  | inl low ↦ lt-ltb i (primary - first) (omega (arith, low)) ∙ sym (lt-ltb (first + i) primary low)
  | inr high ↦ le-ltb i (primary - first) (omega (arith, high)) ∙ sym (le-ltb (first + i) primary high)
]
