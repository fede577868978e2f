use Rattle.std.proofs.Common.{◌≡◌, ℕ, ◌<◌, arith}
use Rattle.std.specs.Int.{bit_at}
use Rattle.item_planes.proofs.Binary.{zeros_of, all_ones}
use Rattle.item_planes.proofs.digit.least_digit.Goals as goal

pub returns-then-zeros-ne0 : goal.returns-then-zeros-ne0
returns-then-zeros-ne0 c = record {
  binary = omega arith;
  some = omega (arith, c.if-zeros-ne0.true);
  least = λ i inside here. omega arith;
  those = λ i. zeros_of c.args.items c.args.digits i c.ranges.digits.fits;
}

pub returns-else-zeros-ne0 : goal.returns-else-zeros-ne0
returns-else-zeros-ne0 c =
    let ones : (i : ℕ) → i < 64 → bit_at c.args.items i ≡ 1 → bit_at c.args.digits i ≡ 1 = λ i inside here. all_ones c.args.items c.args.digits i c.ranges.digits.fits inside c.if-zeros-ne0.false here in
    record {
      binary = omega arith;
      some = c.requires;
      least = λ i inside here. omega (arith, ones i inside here);
      those = λ i inside. ((λ here. (here, ones i inside here)), (λ h. h.0));
    }
