use Rattle.std.proofs.Common.{◌≤◌, ◌-◌, length, take}
use Rattle.node_core.proofs.site_state.SiteState.give_again.Given as goal
use Rattle.node_core.specs.Outgoing.{Sends}
use Rattle.node_core.specs.Requests.{gives_again}

abbrev pub invariant-loop-from : goal.invariant-loop-from
invariant-loop-from l = record {
  within : l.from ≤ length l.self.own;
  sent : Sends l.initial.out (gives_again l.self.site 0 (take l.from l.self.own)) l.out;
}

abbrev pub decreases-loop-from : goal.decreases-loop-from
decreases-loop-from l = length l.self.own - l.from
