use Rattle.std.proofs.Common.{ℕ, Bool, ◌∙◌, ◌+◌, ◌*◌, sym, arith, subst}
use Rattle.cover_problem.specs.Prefix.{is_covered}
use Rattle.choices.proofs.Bits.{AreBits, bit_left, bit_set}
use Rattle.dancing_links.proofs.links.Links.uncovered_word.Goals as goal
use Rattle.dancing_links.proofs.links.Links.uncovered_word.Goals.{then-not-is_covered, else-not-is_covered}

pub loop-bit-preserved : goal.loop-bit-preserved
loop-bit-preserved c =
    let before = c.loop-bit.invariant in
    let covered : ℕ → Bool = λ k. is_covered c.args.self.now.problem c.args.self.now.chosen (64 * c.args.place + k) in
    let P : ℕ → Type 0 = λ word. AreBits covered (c.loop-bit.bit + 1) word in
    let were : AreBits covered c.loop-bit.bit c.loop-bit.word = record { known = before.known; empty = before.empty } in
    let are : AreBits covered (c.loop-bit.bit + 1) c.if-not-is_covered.word = elim c.if-not-is_covered.branch [
      | then-not-is_covered w ↦ subst P (sym w.word-is) (bit_set covered c.loop-bit.bit c.loop-bit.word (omega (arith, c.loop-bit-test.true, before.few)) (sym c.is_covered.ensures ∙ w.if-not-is_covered.true) were)
      | else-not-is_covered w ↦ subst P (sym w.word-is) (bit_left covered c.loop-bit.bit c.loop-bit.word (sym c.is_covered.ensures ∙ w.if-not-is_covered.false) were)
    ] in
    record { known = are.known; empty = are.empty; few = before.few; inside = before.inside }
