use Rattle.std.proofs.Common.{arith}
use Rattle.cover_world.proofs.refusals.packet_of_no_node.Goals as goal

pub returns-clause-node : goal.returns-clause-node
returns-clause-node c = λ problem view packet beyond reply out new step. omega (arith, beyond, step.1.1)

pub returns-clause-registry : goal.returns-clause-registry
returns-clause-registry c = λ problem view packet beyond reply out new step. omega (arith, beyond, step.1)
