-- The least count, found from its highest digit to its lowest.
use Rattle.std.proofs.Common.{◌≡◌, ℕ, ◌+◌, ◌*◌, ◌^◌, ◌<◌, ◌≤◌, ◌∙◌, refl, inl, inr, arith, w64}
use Rattle.std.specs.Int.{bit_at, trailing_zeros}
use Rattle.std.proofs.lemmas.Bool.{cases_eq, cases_lt}
use Rattle.std.proofs.lemmas.Nat.Bits.{bit_at-lt, bit_at-trailing_zeros}
use Rattle.item_planes.specs.declared.planes.Planes.{Planes}
use Rattle.item_planes.specs.Counts.{count_at, IsLeast, IsLeastDigit, IsNarrowed}

pub narrowed_first : (items : ℕ) → 1 ≤ items → IsNarrowed items (λ i. 0) items 0
narrowed_first items some = record {
  some = some;
  bound = λ i inside here. omega arith;
  those = λ i inside. ((λ here. (here, refl)), (λ h. h.0));
}

pub narrowed_next : (items : ℕ) (number : ℕ → ℕ) (left least digits next digit : ℕ) → IsNarrowed items number left least → IsLeastDigit left digits next digit
    → IsNarrowed items (λ i. 2 * number i + bit_at digits i) next (2 * least + digit)
narrowed_next items number left least digits next digit are is = record {
  some = is.some;
  bound = λ i inside here. elim (cases_eq (number i) least) [
    | inl same ↦ omega (arith, same, is.least i inside ((are.those i inside).1 (here, same)))
    | inr other ↦ omega (arith, other, are.bound i inside here, is.binary)
  ];
  those = λ i inside. (
    (λ h.
        let digit_is = (is.those i inside).0 h in
        let number_is = (are.those i inside).0 digit_is.0 in
        (number_is.0, omega (arith, number_is.1, digit_is.1))),
    (λ h.
        let bound = are.bound i inside h.0 in
        let number_is : number i ≡ least = omega (arith, h.1, bound, is.binary, bit_at-lt digits i) in
        let digit_is : bit_at digits i ≡ digit = omega (arith, h.1, number_is) in
        (is.those i inside).1 ((are.those i inside).1 (h.0, number_is), digit_is)),
  );
}

-- the same by other numbers, which are alike on these items
pub narrowed_same : (items : ℕ) (number other : ℕ → ℕ) (left least : ℕ) → IsNarrowed items number left least
    → ((i : ℕ) → i < 64 → bit_at items i ≡ 1 → other i ≡ number i) → IsNarrowed items other left least
narrowed_same items number other left least are same = record {
  some = are.some;
  bound = λ i inside here. omega (arith, same i inside here, are.bound i inside here);
  those = λ i inside. (
    (λ h. let there = (are.those i inside).0 h in (there.0, same i inside there.0 ∙ there.1)),
    (λ h. (are.those i inside).1 (h.0, omega (arith, same i inside h.0, h.1))),
  );
}

-- all digits are a count
pub narrowed_all : (p : Planes) (left count : ℕ) → left < 2 ^ 64 → IsNarrowed p.uncovered (count_at p) left count → IsLeast p (trailing_zeros w64 left) count
narrowed_all p left count small are =
    let low = bit_at-trailing_zeros w64 left are.some small in
    let inside : trailing_zeros w64 left < 64 = omega (arith, low.0) in
    let there = (are.those (trailing_zeros w64 left) inside).0 low.1 in
    record {
      inside = inside;
      uncovered = there.0;
      counted = there.1;
      least = are.bound;
      first = λ i within here same. elim (cases_lt i (trailing_zeros w64 left)) [
        | inl before ↦ omega (arith, low.2 i before, (are.those i within).1 (here, same))
        | inr behind ↦ omega (arith, behind)
      ];
    }
