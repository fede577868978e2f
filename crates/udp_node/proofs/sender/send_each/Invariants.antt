use Rattle.std.proofs.Common.{◌≡◌}
use Rattle.udp_node.proofs.sender.send_each.Given as goal

abbrev pub invariant-loop-look : goal.invariant-loop-look
invariant-loop-look g l = l.drain.outbox ≡ l.outbox
