-- The bits of the uncovered items, one after the other.
use Rattle.std.proofs.Common.{◌≡◌, ℕ, ◌+◌, ◌*◌, ◌^◌, ◌%◌, ◌<◌, ◌≤◌, ◌==◌, Bool, true, false, not, bit_or, w64, sym, ap, ◌∙◌, arith, inl, inr, subst}
use Rattle.std.specs.Int.{bit_at}
use Rattle.std.proofs.lemmas.Bool.{cases_eq}
use Rattle.std.proofs.lemmas.Nat.Bits.{bit_at_set_same, bit_at_set_other}

-- the bits below a number say which items aren't covered, and no other bit is 1
pub record AreBits (covered : ℕ → Bool) (n word : ℕ) : Type 0 where
  pub known : (k : ℕ) → k < n → (bit_at word k == 1) ≡ not (covered k)
  pub empty : (k : ℕ) → n ≤ k → bit_at word k ≡ 0

pub bit_set : (covered : ℕ → Bool) (n word : ℕ) → n < 64 → covered n ≡ false → AreBits covered n word → AreBits covered (n + 1) (bit_or word (1 * 2 ^ n % 18446744073709551616))
bit_set covered n word within free are = record {
  known = λ k less. elim (cases_eq k n) [
    | inl same ↦
        let P : ℕ → Type 0 = λ j. (bit_at (bit_or word (1 * 2 ^ n % 18446744073709551616)) j == 1) ≡ not (covered j) in
        subst P (sym same) (ap (λ b. b == 1) (bit_at_set_same w64 word n within) ∙ sym (ap not free))
    | inr other ↦ ap (λ b. b == 1) (bit_at_set_other w64 word n within k other) ∙ are.known k (omega (arith, less, other))
  ];
  empty = λ k more. bit_at_set_other w64 word n within k (λ e. omega (arith, e, more)) ∙ are.empty k (omega (arith, more));
}

pub bit_left : (covered : ℕ → Bool) (n word : ℕ) → covered n ≡ true → AreBits covered n word → AreBits covered (n + 1) word
bit_left covered n word taken are = record {
  known = λ k less. elim (cases_eq k n) [
    | inl same ↦
        let P : ℕ → Type 0 = λ j. (bit_at word j == 1) ≡ not (covered j) in
        subst P (sym same) (ap (λ b. b == 1) (are.empty n (omega arith)) ∙ sym (ap not taken))
    | inr other ↦ are.known k (omega (arith, less, other))
  ];
  empty = λ k more. are.empty k (omega (arith, more));
}
