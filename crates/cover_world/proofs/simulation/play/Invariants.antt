use Rattle.std.proofs.Common.{◌≡◌}
use Rattle.cover_world.proofs.simulation.play.Given as goal
use Rattle.cover_world.specs.Simulation.{Turns, simulation}
use Rattle.cover_world.specs.Worlds.{Run}

abbrev pub invariant-loop-turn : goal.invariant-loop-turn
invariant-loop-turn l = record {
  problem : l.world.problem ≡ l.fn.world.problem;
  run : Run l.fn.world.problem l.fn.world.world l.world.world;
  turns : Turns l.fn.world.problem l.fn.fuel l._turn (simulation l.fn.world.world l.fn.rng l.fn.restarts) (simulation l.world.world l.rng l.left);
}
