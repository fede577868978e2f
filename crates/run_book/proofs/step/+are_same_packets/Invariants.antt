use Rattle.std.proofs.Common.{length}
use Rattle.run_book.proofs.step.+are_same_packets.Given as goal

abbrev pub decreases-are_same_packets : goal.decreases-are_same_packets
decreases-are_same_packets l = length l.packets.now
