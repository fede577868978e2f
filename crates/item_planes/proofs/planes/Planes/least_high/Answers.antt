use Rattle.std.proofs.Common.{arith, subst, sym}
use Rattle.item_planes.specs.declared.digits.Digits.{Digits}
use Rattle.item_planes.specs.Counts.{high_at, IsNarrowed}
use Rattle.item_planes.proofs.Least.{narrowed_first, narrowed_same}
use Rattle.item_planes.proofs.planes.Planes.least_high.Goals as goal

pub returns-in-Three-clause-least : goal.returns-in-Three-clause-least
returns-in-Three-clause-least c =
    let D : Digits → Type 0 = λ d. IsNarrowed c.args.items (high_at d c.args.self.now) c.args.items 0 in
    subst D (sym c.in-Three.is) (narrowed_first c.args.items c.requires)

pub returns-in-Five-clause-least : goal.returns-in-Five-clause-least
returns-in-Five-clause-least c =
    let D : Digits → Type 0 = λ d. IsNarrowed c.args.items (high_at d c.args.self.now) c.least_two.result.0 c.least_two.result.1 in
    subst D (sym c.in-Five.is) (narrowed_same c.args.items _ _ _ _ (c.least_two.ensures.least c.args.items (λ i. 0) (narrowed_first c.args.items c.requires)) (λ i inside named. omega arith))
