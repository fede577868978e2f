use Rattle.std.proofs.Common.{arith}
use Rattle.cover_world.proofs.refusals.finding_without_fuel.Goals as goal

pub returns : goal.returns
returns c = λ problem view job finding none reply out new step. omega (arith, none, step.1.1.right.fuel)
