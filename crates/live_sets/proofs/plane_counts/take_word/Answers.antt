use Rattle.std.proofs.Common.{◌≡◌, ap, sym, ◌∙◌, arith, rules, w64}
use Rattle.std.specs.Int.{bit_at, trailing_zeros}
use Rattle.std.proofs.lemmas.Nat.Bits.{bit_at-trailing_zeros}
use Rattle.live_sets.specs.Planes.{named_in}
use Rattle.live_sets.proofs.Cleared.{without_lowest}
use Rattle.live_sets.proofs.Masked.{named_none, named_less, cut_less, cut_part}
use Rattle.live_sets.proofs.plane_counts.take_word.Goals as goal

pub bounds-masks-place : goal.bounds-masks-place
bounds-masks-place c =
    let low = bit_at-trailing_zeros w64 c.loop-left.left (omega (arith, c.loop-left-test.true)) (search rules) in
    c.requires.inside (trailing_zeros w64 c.loop-left.left) low.0 (c.loop-left.invariant.inside (trailing_zeros w64 c.loop-left.left) low.0 low.1)

pub overflow_mul-place : goal.overflow_mul-place
overflow_mul-place c =
    let low = bit_at-trailing_zeros w64 c.loop-left.left (omega (arith, c.loop-left-test.true)) (search rules) in
    let inside = c.requires.inside (trailing_zeros w64 c.loop-left.left) low.0 (c.loop-left.invariant.inside (trailing_zeros w64 c.loop-left.left) low.0 low.1) in
    omega (arith, inside)

pub overflow_add-place : goal.overflow_add-place
overflow_add-place c =
    let low = bit_at-trailing_zeros w64 c.loop-left.left (omega (arith, c.loop-left-test.true)) (search rules) in
    let inside = c.requires.inside (trailing_zeros w64 c.loop-left.left) low.0 (c.loop-left.invariant.inside (trailing_zeros w64 c.loop-left.left) low.0 low.1) in
    omega (arith, inside)

pub offset_bounds-masks-place : goal.offset_bounds-masks-place
offset_bounds-masks-place c =
    let low = bit_at-trailing_zeros w64 c.loop-left.left (omega (arith, c.loop-left-test.true)) (search rules) in
    let inside = c.requires.inside (trailing_zeros w64 c.loop-left.left) low.0 (c.loop-left.invariant.inside (trailing_zeros w64 c.loop-left.left) low.0 low.1) in
    omega (arith, inside)

pub take-requires : goal.take-requires
take-requires c i inside =
    let low = bit_at-trailing_zeros w64 c.loop-left.left (omega (arith, c.loop-left-test.true)) (search rules) in
    omega (arith, c.loop-left.invariant.part i inside, c.requires.enough i inside, named_less c.args.masks.now c.args.place c.loop-left.left (trailing_zeros w64 c.loop-left.left) i low.0 low.1)

pub loop-left-smaller : goal.loop-left-smaller
loop-left-smaller c =
    let low = bit_at-trailing_zeros w64 c.loop-left.left (omega (arith, c.loop-left-test.true)) (search rules) in
    let cut = without_lowest c.loop-left.left (omega (arith, c.loop-left-test.true)) (search rules) in
    omega (arith, cut, cut_less c.loop-left.left (trailing_zeros w64 c.loop-left.left) low.0 low.1)

pub loop-left-preserved : goal.loop-left-preserved
loop-left-preserved c =
    let low = bit_at-trailing_zeros w64 c.loop-left.left (omega (arith, c.loop-left-test.true)) (search rules) in
    let cut = without_lowest c.loop-left.left (omega (arith, c.loop-left-test.true)) (search rules) in
    record {
      uncovered = omega (arith, c.take.ensures.uncovered, c.loop-left.invariant.uncovered);
      inside = λ k inside here. c.loop-left.invariant.inside k inside (cut_part c.loop-left.left (trailing_zeros w64 c.loop-left.left) k low.0 inside (sym (ap (λ n. bit_at n k) cut) ∙ here));
      part = λ i inside.
          omega (arith, ap (λ n. named_in c.args.masks.now c.args.place n i) cut, c.take.ensures.part i inside, c.loop-left.invariant.part i inside, named_less c.args.masks.now c.args.place c.loop-left.left (trailing_zeros w64 c.loop-left.left) i low.0 low.1);
      counts = λ i inside.
          omega (arith, ap (λ n. named_in c.args.masks.now c.args.place n i) cut, c.take.ensures.counts i inside, c.loop-left.invariant.counts i inside, named_less c.args.masks.now c.args.place c.loop-left.left (trailing_zeros w64 c.loop-left.left) i low.0 low.1);
    }

pub returns-clause-part : goal.returns-clause-part
returns-clause-part c i inside =
    let none : c.loop-left.left ≡ 0 = omega (arith, c.loop-left-test.false) in
    omega (arith, c.loop-left.invariant.part i inside, ap (λ n. named_in c.args.masks.now c.args.place n i) none, named_none c.args.masks.now c.args.place i)

pub returns-clause-counts : goal.returns-clause-counts
returns-clause-counts c i inside =
    let none : c.loop-left.left ≡ 0 = omega (arith, c.loop-left-test.false) in
    omega (arith, c.loop-left.invariant.counts i inside, ap (λ n. named_in c.args.masks.now c.args.place n i) none, named_none c.args.masks.now c.args.place i)
