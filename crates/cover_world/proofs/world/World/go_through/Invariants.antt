use Rattle.std.proofs.Common.{◌≡◌, ◌≤◌, take}
use Rattle.cover_world.specs.Courses.{TakesAll}
use Rattle.cover_world.proofs.world.World.go_through.Given as goal

abbrev pub invariant-loop-at : goal.invariant-loop-at
invariant-loop-at l =
    (l.self.problem ≡ l.initial.self.problem) × TakesAll l.initial.self.problem l.initial.self.world (take l.at l.events) l.done l.self.world × (l.done ≤ l.at)
