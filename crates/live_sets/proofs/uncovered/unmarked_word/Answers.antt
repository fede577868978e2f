use Rattle.std.proofs.Common.{ℕ, Bool, ◌≡◌, ◌∙◌, ◌+◌, ◌*◌, ◌^◌, ◌%◌, ap, sym, arith, inl, inr, subst, bit_or, not, nat_lt, slice_index, if◌then◌else◌}
use Rattle.std.specs.Int.Bits.{or_zero_r}
use Rattle.std.proofs.lemmas.Bool.{cases_Bool}
use Rattle.choices.proofs.Bits.{AreBits, bit_left, bit_set}
use Rattle.live_sets.proofs.Uncovering.{not_not}
use Rattle.live_sets.proofs.uncovered.unmarked_word.Goals as goal

pub loop-bit-preserved : goal.loop-bit-preserved
loop-bit-preserved c =
    let before = c.loop-bit.invariant in
    let is_less : ℕ → Bool = λ k. nat_lt (slice_index c.args.keys.now (64 * c.args.place + k)) 2147483648 in
    let covered : ℕ → Bool = λ k. not (nat_lt (slice_index c.args.keys.now (64 * c.args.place + k)) 2147483648) in
    let were : AreBits covered c.loop-bit.bit c.loop-bit.word = record { known = λ k less. before.known k less ∙ sym (not_not (is_less k)); empty = before.empty } in
    let W : ℕ → Type 0 = λ word. AreBits covered (c.loop-bit.bit + 1) word in
    let B : ℕ → Type 0 = λ digit. AreBits covered (c.loop-bit.bit + 1) (bit_or c.loop-bit.word (digit * 2 ^ c.loop-bit.bit % 18446744073709551616)) in
    let none : 0 * 2 ^ c.loop-bit.bit % 18446744073709551616 ≡ 0 = omega arith in
    let are : AreBits covered (c.loop-bit.bit + 1) (bit_or c.loop-bit.word (c.unmarked_bit.result * 2 ^ c.loop-bit.bit % 18446744073709551616)) = elim (cases_Bool (is_less c.loop-bit.bit)) [
      | inl less ↦ subst B (sym (c.unmarked_bit.ensures ∙ ap (λ b. if b then 1 else 0) less)) (bit_set covered c.loop-bit.bit c.loop-bit.word (omega (arith, c.loop-bit-test.true, before.few)) (ap not less) were)
      | inr more ↦
          let same : bit_or c.loop-bit.word (0 * 2 ^ c.loop-bit.bit % 18446744073709551616) ≡ c.loop-bit.word = ap (bit_or c.loop-bit.word) none ∙ or_zero_r c.loop-bit.word in
          subst B (sym (c.unmarked_bit.ensures ∙ ap (λ b. if b then 1 else 0) more)) (subst W (sym same) (bit_left covered c.loop-bit.bit c.loop-bit.word (ap not more) were))
    ] in
    record { known = λ k less. are.known k less ∙ not_not (is_less k); empty = are.empty; few = before.few; inside = before.inside }
