use Rattle.std.proofs.Common.{◌≡◌, ◌++◌, take}
use Rattle.packet_wire.specs.Spelling.{numbers}
use Rattle.packet_wire.proofs.writing.write_options.Given as goal

abbrev pub invariant-loop-option : goal.invariant-loop-option
invariant-loop-option l = l.out.items ≡ l.fn.out.items ++ numbers 2 (take l.option-index l.options)
