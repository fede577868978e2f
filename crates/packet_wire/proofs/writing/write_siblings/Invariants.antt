use Rattle.std.proofs.Common.{◌≡◌, ◌++◌, take}
use Rattle.packet_wire.specs.Spelling.{siblings_text}
use Rattle.packet_wire.proofs.writing.write_siblings.Given as goal

abbrev pub invariant-loop-sibling : goal.invariant-loop-sibling
invariant-loop-sibling l = l.out.items ≡ l.fn.out.items ++ siblings_text (take l.sibling-index l.siblings)
