use Rattle.std.proofs.Common.{◌≡◌, sum_by, take}
use Rattle.udp_node.proofs.node_end.receipts_of.Given as goal

abbrev pub invariant-loop-receipts : goal.invariant-loop-receipts
invariant-loop-receipts g l = l.many ≡ sum_by (λ receipts. receipts.seat) (take l.receipts-index l.seats)
