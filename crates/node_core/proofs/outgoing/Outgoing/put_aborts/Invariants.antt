use Rattle.std.proofs.Common.{◌≡◌, ◌+◌, take}
use Rattle.node_core.proofs.outgoing.Outgoing.put_aborts.Given as goal
use Rattle.node_core.specs.Outgoing.{Sends}
use Rattle.node_core.specs.SiteView.{abort_packets}

abbrev pub invariant-loop-child : goal.invariant-loop-child
invariant-loop-child l = record {
  sends : Sends l.initial.self (abort_packets l.site (take l.child-index l.stolen)) l.self;
  room : l.self.room + l.child-index ≡ l.initial.self.room;
}
