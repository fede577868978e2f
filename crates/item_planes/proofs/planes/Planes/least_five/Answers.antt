use Rattle.std.proofs.Common.{◌≡◌, ℕ, ◌+◌, ◌*◌, arith, subst}
use Rattle.std.specs.Int.{bit_at}
use Rattle.item_planes.specs.declared.planes.Planes.{Planes}
use Rattle.item_planes.specs.Counts.{IsNarrowed}
use Rattle.item_planes.proofs.Least.{narrowed_first, narrowed_next, narrowed_same}
use Rattle.item_planes.proofs.planes.Planes.least_five.Goals as goal

pub returns-clause-least : goal.returns-clause-least
returns-clause-least c =
    let p : Planes = c.args.self.now in
    let first = narrowed_first c.args.items c.requires in
    let one = narrowed_next _ _ _ _ _ _ _ first c.least_digit-items.ensures in
    let two = narrowed_next _ _ _ _ _ _ _ one c.least_digit-items-2.ensures in
    let three = narrowed_next _ _ _ _ _ _ _ two c.least_digit-items-3.ensures in
    let high : ℕ → ℕ = λ i. 2 * (2 * (2 * 0 + bit_at p.one_twenty_eights i) + bit_at p.sixty_fours i) + bit_at p.thirty_twos i in
    let at : 2 * (2 * (2 * 0 + c.least_digit-items.result.1) + c.least_digit-items-2.result.1) + c.least_digit-items-3.result.1
    ≡ 4 * c.least_digit-items.result.1 + 2 * c.least_digit-items-2.result.1 + c.least_digit-items-3.result.1 = omega arith in
    let here = subst (IsNarrowed c.args.items high c.least_digit-items-3.result.0) at three in
    narrowed_same c.args.items _ _ _ _ (c.least_two.ensures.least c.args.items high here) (λ i inside named. omega arith)
