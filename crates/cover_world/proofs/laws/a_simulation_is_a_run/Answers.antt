use Rattle.cover_world.proofs.Reached.{simulated_run}
use Rattle.cover_world.proofs.laws.a_simulation_is_a_run.Goals as goal

pub returns : goal.returns
returns c = λ problem fuel turns old new simulated. simulated_run problem fuel turns old new simulated
