use Rattle.std.proofs.Common.{◌≡◌, ◌++◌, take}
use Rattle.packet_wire.specs.Spelling.{numbers}
use Rattle.packet_wire.proofs.writing.write_incarnations.Given as goal

abbrev pub invariant-loop-incarnation : goal.invariant-loop-incarnation
invariant-loop-incarnation l = l.out.items ≡ l.fn.out.items ++ numbers 4 (take l.incarnation-index l.incarnations)
