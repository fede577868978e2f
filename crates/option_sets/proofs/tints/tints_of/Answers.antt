use Rattle.std.proofs.Common.{ℕ, ◌<◌, List, length, subst, ap, arith}
use Rattle.cover_problem.specs.Problem.{colours_of}
use Rattle.option_sets.specs.Tints.{AreNumbers}
use Rattle.option_sets.proofs.Numbers.{tints_more}
use Rattle.option_sets.proofs.Barring.{left_next}
use Rattle.option_sets.proofs.tints.tints_of.Goals as goal

pub loop-option-preserved : goal.loop-option-preserved
loop-option-preserved c =
    let p = c.args.problem.now in
    let o : ℕ = c.loop-option.option in
    let inside : c.loop-option.option < length c.args.problem.now.options = omega (arith, c.loop-option-test.true, c.options-option-end.ensures.count) in
    record {
      to = rw c.in_ok-push.ensures.items (tints_more p o c.loop-option.numbering c.tints_of_option.new.numbering c.loop-option.lists.items c.in_ok-tints_of_option.field-0 c.in_ok-tints_of_option.ensures.more c.loop-option.invariant.to
          (subst (λ (is : List ℕ). AreNumbers c.tints_of_option.new.numbering is (colours_of p o) c.in_ok-tints_of_option.field-0) c.option-items.ensures.items
          (subst (λ (cs : List ℕ). AreNumbers c.tints_of_option.new.numbering c.option-items.result.now cs c.in_ok-tints_of_option.field-0) c.colours-colours.ensures.colours c.in_ok-tints_of_option.ensures.numbers)));
      few = omega (arith, c.in_ok-tints_of_option.ensures.few, c.loop-option.invariant.few, left_next c.args.problem.now.options c.loop-option.option inside, ap length c.option-items.ensures.items);
    }
