use Rattle.std.proofs.Common.{◌≡◌, ◌+◌, drop}
use Rattle.spawn_frame.specs.Picks.{either_unit}
use Rattle.spawn_frame.specs.Works.{last_wanted}
use Rattle.spawn_frame.proofs.pages.last_child.Given as goal

abbrev pub invariant-loop-place : goal.invariant-loop-place
invariant-loop-place l = either_unit (last_wanted l.wanted (l.first + l.place) (drop l.place l.children)) l.last ≡ last_wanted l.wanted l.first l.children
