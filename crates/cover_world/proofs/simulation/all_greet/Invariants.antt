use Rattle.std.proofs.Common.{◌≡◌, length}
use Rattle.cover_world.proofs.simulation.all_greet.Given as goal
use Rattle.cover_world.specs.Simulation.{AllGreet}
use Rattle.cover_world.specs.Worlds.{Run}

abbrev pub invariant-loop-place : goal.invariant-loop-place
invariant-loop-place l = record {
  problem : l.world.problem ≡ l.fn.world.problem;
  run : Run l.fn.world.problem l.fn.world.world l.world.world;
  nodes : length l.world.world.sites ≡ length l.fn.world.world.sites;
  greeted : AllGreet l.fn.world.problem l.place l.fn.world.world l.world.world;
}
