use Rattle.std.proofs.Common.{take}
use Rattle.node_core.specs.Outgoing.{Sends}
use Rattle.root_registry.proofs.telling.send_to_each.Given as goal
use Rattle.root_registry.specs.RegistryStep.{to_each}

abbrev pub invariant-loop-place : goal.invariant-loop-place
invariant-loop-place l = Sends l.initial.out (to_each l.from l.body 1 (take l.place l.incarnations)) l.out
