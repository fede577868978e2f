use Rattle.std.proofs.Common.{ℕ, subst, arith}
use Rattle.option_sets.specs.Tints.{IsNumberOf}
use Rattle.option_sets.proofs.Numbers.{numbers_more, extends_on}
use Rattle.option_sets.proofs.tints.tints_of_option.Goals as goal

pub loop-place-preserved : goal.loop-place-preserved
loop-place-preserved c = record {
  numbers = rw c.in_ok-push.ensures.items (numbers_more c.loop-place.numbering c.number.new.self c.args.items.now c.args.colours.now c.loop-place.numbers.items c.loop-place.place c.in_ok-number.number
      c.loop-place-test.true c.requires.long c.in_ok-number.ensures.more c.loop-place.invariant.numbers
      (subst (λ (k : ℕ). IsNumberOf c.number.new.self k c.in_ok-number.number) c.key_of.ensures c.in_ok-number.ensures.number));
  more = extends_on c.args.numbering.now c.loop-place.numbering c.number.new.self c.loop-place.invariant.more c.in_ok-number.ensures.more;
  few = omega (arith, c.in_ok-number.ensures.few, c.loop-place.invariant.few);
}
