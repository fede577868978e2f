use Rattle.std.proofs.Common.{◌≡◌, take}
use Rattle.steal_return.proofs.known.later_incarnations.Given as goal
use Rattle.steal_return.specs.Members.{now_known}

abbrev pub invariant-loop-node : goal.invariant-loop-node
invariant-loop-node l = l.learnt.items ≡ take l.node (now_known l.own l.known l.incarnations)
