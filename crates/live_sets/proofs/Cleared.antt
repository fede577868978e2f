-- A word without its lowest bit.
use Rattle.std.proofs.Common.{◌≡◌, ℕ, suc, ◌+◌, ◌-◌, ◌*◌, ◌/◌, ◌%◌, ◌^◌, ◌<◌, bit_and, arith, sym, ap, ◌∙◌, inl, inr, w64}
use Rattle.std.specs.Int.{bit_at, bit_not, trailing_zeros}
use Rattle.std.proofs.lemmas.Bool.{cases_eq, cases_order}
use Rattle.std.proofs.lemmas.Nat.{and_le_l}
use Rattle.std.proofs.lemmas.Nat.Bits.{bit_at_and, bit_at-pow_same, bit_at-pow_other, bit_at-trailing_zeros, bit_at_cat_low, bit_at_cat_high, bit_at_clear_same, bit_at_clear_other, bit_at_ones_above, same_from_bits_below}

-- a number is what stands above its lowest bit, and that bit
above_lowest : (n t : ℕ) → bit_at n t ≡ 1 → ((i : ℕ) → i < t → bit_at n i ≡ 0) → n ≡ n / 2 ^ suc t * 2 ^ suc t + 2 ^ t
above_lowest n t here none =
    let k : ℕ = suc t in
    let r : ℕ = n % 2 ^ k in
    let whole : n ≡ n / 2 ^ k * 2 ^ k + r = omega arith in
    let low : (i : ℕ) → i < k → bit_at n i ≡ bit_at r i = λ i h. ap (λ m. bit_at m i) whole ∙ bit_at_cat_low (n / 2 ^ k) k r i h in
    let power : r ≡ 2 ^ t = same_from_bits_below k r (2 ^ t) (omega arith) (omega arith)
    (λ i h. elim (cases_eq i t) [
      | inl same ↦ sym (low i h) ∙ ap (bit_at n) same ∙ here ∙ sym (ap (bit_at (2 ^ t)) same ∙ bit_at-pow_same t)
      | inr other ↦ sym (low i h) ∙ none i (omega (arith, h, other)) ∙ sym (bit_at-pow_other t i other)
    ]) in
    whole ∙ ap (λ m. n / 2 ^ k * 2 ^ k + m) power

-- `n & (n - 1)` is n without its lowest bit
pub without_lowest : (n : ℕ) → 0 < n → n < 2 ^ 64 → bit_and n (n - 1) ≡ bit_and n (bit_not w64 (1 * 2 ^ trailing_zeros w64 n % 2 ^ 64))
without_lowest n some fits =
    let t : ℕ = trailing_zeros w64 n in
    let low = bit_at-trailing_zeros w64 n some fits in
    let a : ℕ = n / 2 ^ suc t in
    let cut : ℕ = bit_not w64 (1 * 2 ^ t % 2 ^ 64) in
    let whole = above_lowest n t low.1 low.2 in
    let less : n - 1 ≡ a * 2 ^ suc t + (2 ^ t - 1) = omega (arith, whole, some) in
    same_from_bits_below 64 (bit_and n (n - 1)) (bit_and n cut) (omega (arith, and_le_l n (n - 1), fits)) (omega (arith, and_le_l n cut, fits))
    (λ i h.
    let both = bit_at_and n (n - 1) i in
    elim (cases_order t i) [
      | inl same ↦
          let off : bit_at (n - 1) t ≡ 0 = ap (λ m. bit_at m t) less ∙ bit_at_cat_low a (suc t) (2 ^ t - 1) t (omega arith) ∙ bit_at_ones_above t t (omega arith) in
          omega (arith, ap (λ m. bit_at (bit_and n (n - 1)) m) same, bit_at_and n (n - 1) t, off, ap (λ m. bit_at (bit_and n cut) m) same, bit_at_clear_same w64 n t low.0)
      | inr (inl more) ↦
          let on : bit_at (n - 1) i ≡ bit_at n i =
          ap (λ m. bit_at m i) less ∙ bit_at_cat_high a (suc t) (2 ^ t - 1) i (omega arith) (omega (arith, more))
          ∙ sym (ap (λ m. bit_at m i) whole ∙ bit_at_cat_high a (suc t) (2 ^ t) i (omega arith) (omega (arith, more))) in
          omega (arith, both, on, bit_at_clear_other w64 n t low.0 i h (λ e. omega (arith, e, more)))
      | inr (inr lower) ↦ omega (arith, both, low.2 i lower, bit_at_clear_other w64 n t low.0 i h (λ e. omega (arith, e, lower)))
    ])
