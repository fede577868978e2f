use Rattle.std.proofs.Common.{◌≡◌, ℕ, ◌+◌, ◌*◌, arith, subst}
use Rattle.std.specs.Int.{bit_at}
use Rattle.item_planes.specs.declared.planes.Planes.{Planes}
use Rattle.item_planes.specs.Counts.{IsNarrowed}
use Rattle.item_planes.proofs.Least.{narrowed_next, narrowed_same}
use Rattle.item_planes.proofs.planes.Planes.least_two.Goals as goal

pub returns-clause-least : goal.returns-clause-least
returns-clause-least c all number are =
    let p : Planes = c.args.self.now in
    let one = narrowed_next _ _ _ _ _ _ _ are c.least_digit-items.ensures in
    let two = narrowed_next _ _ _ _ _ _ _ one c.least_digit-items-2.ensures in
    let high : ℕ → ℕ = λ i. 2 * (2 * number i + bit_at p.sixteens i) + bit_at p.eights i in
    let at : 2 * (2 * c.args.high + c.least_digit-items.result.1) + c.least_digit-items-2.result.1 ≡ 4 * c.args.high + 2 * c.least_digit-items.result.1 + c.least_digit-items-2.result.1 = omega arith in
    let here = subst (IsNarrowed all high c.least_digit-items-2.result.0) at two in
    narrowed_same all _ _ _ _ here (λ i inside named. omega arith)
