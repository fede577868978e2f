use Rattle.std.proofs.Common.{arith}
use Rattle.item_planes.specs.declared.digits.Digits.TheVariants.{Three, Five, Eight}
use Rattle.item_planes.proofs.Binary.{digit_full}
use Rattle.item_planes.proofs.planes.Planes.full.Goals as goal

pub returns-clause-part : goal.returns-clause-part
returns-clause-part c Three i inside = omega (arith, digit_full i inside)
returns-clause-part c Five i inside = omega (arith, digit_full i inside)
returns-clause-part c Eight i inside = omega (arith, digit_full i inside)

pub returns-clause-counts : goal.returns-clause-counts
returns-clause-counts c i inside = omega (arith, digit_full i inside)
