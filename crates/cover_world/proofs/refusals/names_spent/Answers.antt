use Rattle.std.proofs.Common.{◌≤◌, length, subst, arith}
use Rattle.node_core.specs.SiteView.{View}
use Rattle.cover_world.proofs.refusals.names_spent.Goals as goal

pub returns : goal.returns
returns c = λ problem view job prefix fuel beyond reply out new step.
    omega (arith, beyond, subst (λ (v : View). length v.own ≤ view.limit) (step.1.1.leaves.0) (step.1.1.leaves.1))
