use Rattle.std.proofs.Common.{arith}
use Rattle.std.proofs.lemmas.Nat.Bits.{bit_at-lt}
use Rattle.item_planes.specs.declared.planes.Planes.{Planes}
use Rattle.item_planes.proofs.Binary.{none_of_both, none_of_three}
use Rattle.item_planes.proofs.planes.Planes.digits.Goals as goal

pub returns-then-self-ne0-2 : goal.returns-then-self-ne0-2
returns-then-self-ne0-2 c i inside =
    let p : Planes = c.args.self.now in
    let high = none_of_three p.thirty_twos p.sixty_fours p.one_twenty_eights i (omega (arith, c.if-self-ne0.false)) in
    omega (arith, high, bit_at-lt p.ones i, bit_at-lt p.twos i, bit_at-lt p.fours i, bit_at-lt p.eights i, bit_at-lt p.sixteens i)

pub returns-else-self-ne0-2 : goal.returns-else-self-ne0-2
returns-else-self-ne0-2 c i inside =
    let p : Planes = c.args.self.now in
    let high = none_of_three p.thirty_twos p.sixty_fours p.one_twenty_eights i (omega (arith, c.if-self-ne0.false)) in
    let middle = none_of_both p.eights p.sixteens i (omega (arith, c.if-self-ne0-2.false)) in
    omega (arith, high, middle, bit_at-lt p.ones i, bit_at-lt p.twos i, bit_at-lt p.fours i)
