use Rattle.std.proofs.Common.{refl, arith}
use Rattle.cover_world.proofs.refusals.no_such_victim.Goals as goal

pub returns-clause-itself : goal.returns-clause-itself
returns-clause-itself c = λ problem view reply out new step. step.1.1.another refl

pub returns-clause-beyond : goal.returns-clause-beyond
returns-clause-beyond c = λ problem view victim beyond reply out new step. omega (arith, beyond, step.1.1.exists)
