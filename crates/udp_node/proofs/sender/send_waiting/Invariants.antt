use Rattle.std.proofs.Common.{◌≡◌}
use Rattle.udp_node.proofs.sender.send_waiting.Given as goal

abbrev pub invariant-loop-parcel : goal.invariant-loop-parcel
invariant-loop-parcel g l = l.drain.outbox ≡ l.fn.drain.outbox
