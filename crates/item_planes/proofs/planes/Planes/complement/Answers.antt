use Rattle.std.proofs.Common.{arith, rules}
use Rattle.item_planes.specs.declared.planes.Planes.{Planes}
use Rattle.item_planes.proofs.Binary.{digit_turned}
use Rattle.item_planes.proofs.planes.Planes.complement.Goals as goal

pub returns-clause-counts : goal.returns-clause-counts
returns-clause-counts c i inside =
    let p : Planes = c.args.self.now in
    let ones = digit_turned p.ones i (search rules) inside in
    let twos = digit_turned p.twos i (search rules) inside in
    let fours = digit_turned p.fours i (search rules) inside in
    let eights = digit_turned p.eights i (search rules) inside in
    let sixteens = digit_turned p.sixteens i (search rules) inside in
    let thirty_twos = digit_turned p.thirty_twos i (search rules) inside in
    let sixty_fours = digit_turned p.sixty_fours i (search rules) inside in
    let one_twenty_eights = digit_turned p.one_twenty_eights i (search rules) inside in
    omega (arith, ones, twos, fours, eights, sixteens, thirty_twos, sixty_fours, one_twenty_eights)
