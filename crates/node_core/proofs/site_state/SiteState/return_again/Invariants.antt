use Rattle.std.proofs.Common.{take}
use Rattle.node_core.proofs.site_state.SiteState.return_again.Given as goal
use Rattle.node_core.specs.Outgoing.{Sends}
use Rattle.node_core.specs.Requests.{returns_again}
use Rattle.spawn_frame.specs.Tables.{open_guests}

abbrev pub invariant-loop-place : goal.invariant-loop-place
invariant-loop-place l = Sends l.initial.out (returns_again l.self.site (take l.place (open_guests l.self.guests))) l.out
