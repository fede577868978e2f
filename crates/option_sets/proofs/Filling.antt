-- A set that is filled, word by word.
use Rattle.std.proofs.Common.{◌≡◌, ℕ, ◌+◌, ◌-◌, ◌*◌, ◌/◌, ◌%◌, ◌^◌, ◌<◌, ◌≤◌, ◌==◌, nat_lt, List, length, set, refl, sym, ap, ◌∙◌, inl, inr, arith}
use Rattle.std.specs.Int.{bit_at}
use Rattle.std.proofs.lemmas.Bool.{cases_eq, cases_lt, eq-eqb, ne_eqb, lt-ltb, le-ltb, ltb-true}
use Rattle.std.proofs.lemmas.List.{get_or_past}
use Rattle.std.proofs.lemmas.Nat.{pow_below}
use Rattle.std.proofs.lemmas.Nat.Bits.{bit_at_ones, bit_at_ones_above, bit_at-zero}
use Rattle.cover_problem.proofs.Basics.{same_truth}
use Rattle.option_sets.specs.Sets.{has}
use Rattle.option_sets.proofs.Bits.{has-set}

pub all_bits : (k count : ℕ) → k < 64 → 64 ≤ count → (bit_at (2 ^ 64 - 1) k == 1) ≡ nat_lt k count
all_bits k count low many = eq-eqb (bit_at (2 ^ 64 - 1) k) 1 (bit_at_ones 64 k low) ∙ sym (lt-ltb k count (omega (arith, low, many)))

pub low_bits : (k count : ℕ) → count < 64 → (bit_at (1 * 2 ^ count % 2 ^ 64 - 1) k == 1) ≡ nat_lt k count
low_bits k count few =
    let small = pow_below count 64 few in
    let one : 1 * 2 ^ count % 2 ^ 64 ≡ 2 ^ count = omega (arith, small) in
    ap (λ n. bit_at (n - 1) k == 1) one
    ∙ elim (cases_lt k count) [
      | inl low ↦ eq-eqb (bit_at (2 ^ count - 1) k) 1 (bit_at_ones count k low) ∙ sym (lt-ltb k count low)
      | inr high ↦ ne_eqb (bit_at (2 ^ count - 1) k) 1 (λ e. omega (arith, e, bit_at_ones_above count k high)) ∙ sym (le-ltb k count high)
    ]

-- one word more
pub filled_more : (words : List ℕ) (word options place : ℕ) → place < length words → place * 64 < options
    → ((k : ℕ) → k < 64 → (bit_at word k == 1) ≡ nat_lt k (options - place * 64))
    → ((x : ℕ) → x / 64 < place → has words x ≡ nat_lt x options) → (x : ℕ) → x / 64 < place + 1 → has (set words place word) x ≡ nat_lt x options
filled_more words word options place inside some bits before x low =
    has-set words place word x inside ∙ elim (cases_eq place (x / 64)) [
      | inl e ↦ rw (eq-eqb place (x / 64) e) (bits (x % 64) (omega arith) ∙ same_truth (nat_lt (x % 64) (options - place * 64)) (nat_lt x options)
          (λ h. let under = ltb-true (x % 64) (options - place * 64) h in lt-ltb x options (omega (arith, under, e)))
          (λ h. let under = ltb-true x options h in lt-ltb (x % 64) (options - place * 64) (omega (arith, under, e, some))))
      | inr d ↦ rw (ne_eqb place (x / 64) d) (before x (omega (arith, low, d)))
    ]

pub filled_all : (words : List ℕ) (options : ℕ) → length words ≡ (options + 63) / 64 → ((x : ℕ) → x / 64 < length words → has words x ≡ nat_lt x options)
    → (x : ℕ) → has words x ≡ nat_lt x options
filled_all words options long before x = elim (cases_lt (x / 64) (length words)) [
  | inl low ↦ before x low
  | inr past ↦ rw (get_or_past words (x / 64) 0 past, bit_at-zero (x % 64), le-ltb x options (omega (arith, past, long))) refl
]
