use Rattle.std.proofs.Common.{◌≡◌, ◌+◌, drop}
use Rattle.spawn_frame.specs.Pages.{next_wanted}
use Rattle.spawn_frame.proofs.next.next_child.Given as goal

abbrev pub invariant-loop-place : goal.invariant-loop-place
invariant-loop-place l = next_wanted l.wanted (l.first + l.place) (drop l.place l.children) ≡ next_wanted l.wanted l.first l.children
