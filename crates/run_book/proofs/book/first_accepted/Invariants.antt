use Rattle.std.proofs.Common.{◌≡◌, drop}
use Rattle.run_book.specs.Answers.{first_accepted}
use Rattle.run_book.proofs.book.first_accepted.Given as goal

abbrev pub invariant-loop-packet : goal.invariant-loop-packet
invariant-loop-packet l = first_accepted (drop l.packet-index l.packets) ≡ first_accepted l.fn.packets
