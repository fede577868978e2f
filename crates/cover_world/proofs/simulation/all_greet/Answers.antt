use Rattle.std.proofs.Common.{refl}
use Rattle.cover_world.proofs.simulation.all_greet.Goals as goal
use Rattle.cover_world.specs.Worlds.{stay}

pub loop-place-init : goal.loop-place-init
loop-place-init c = record { problem = refl; run = stay; nodes = refl; greeted = refl }
