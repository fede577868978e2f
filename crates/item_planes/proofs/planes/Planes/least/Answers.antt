use Rattle.std.proofs.Common.{◌≡◌, ℕ, ◌+◌, ◌*◌, arith, subst, rules}
use Rattle.std.specs.Int.{bit_at}
use Rattle.item_planes.specs.declared.planes.Planes.{Planes}
use Rattle.item_planes.specs.Counts.{count_at, high_at, IsNarrowed}
use Rattle.item_planes.proofs.Binary.{part_all}
use Rattle.item_planes.proofs.Least.{narrowed_next, narrowed_same, narrowed_all}
use Rattle.item_planes.proofs.planes.Planes.least.Goals as goal

pub returns-clause-least : goal.returns-clause-least
returns-clause-least c =
    let p : Planes = c.args.self.now in
    let one = narrowed_next _ _ _ _ _ _ _ c.least_high-items.ensures.least c.least_digit-items.ensures in
    let two = narrowed_next _ _ _ _ _ _ _ one c.least_digit-items-2.ensures in
    let three = narrowed_next _ _ _ _ _ _ _ two c.least_digit-items-3.ensures in
    let left : ℕ = c.least_digit-items-3.result.0 in
    let number : ℕ → ℕ = λ i. 2 * (2 * (2 * high_at c.args.digits p i + bit_at p.fours i) + bit_at p.twos i) + bit_at p.ones i in
    let at : 2 * (2 * (2 * c.least_high-items.result.1 + c.least_digit-items.result.1) + c.least_digit-items-2.result.1) + c.least_digit-items-3.result.1
    ≡ 8 * c.least_high-items.result.1 + 4 * c.least_digit-items.result.1 + 2 * c.least_digit-items-2.result.1 + c.least_digit-items-3.result.1 = omega arith in
    let here = subst (IsNarrowed p.uncovered number c.least_digit-items-3.result.0) at three in
    let whole : IsNarrowed p.uncovered (count_at p) c.least_digit-items-3.result.0 _ = narrowed_same p.uncovered number _ _ _ here
    (λ i inside named. omega (arith, part_all c.args.digits p i (c.requires i inside named))) in
    narrowed_all p left _ (search rules) whole
