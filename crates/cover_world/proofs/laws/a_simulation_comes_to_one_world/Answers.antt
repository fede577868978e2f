use Rattle.cover_world.proofs.OneWorld.{simulated_same}
use Rattle.cover_world.proofs.laws.a_simulation_comes_to_one_world.Goals as goal

pub returns : goal.returns
returns c = λ problem fuel turns old new other h k. simulated_same problem fuel turns old new other h k
