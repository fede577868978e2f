-- What `simulate` says of a problem.
use Rattle.std.specs.Prelude.{◌≡◌, ℕ, Option}
use Rattle.cover_problem.specs.Problem.{Problem}
use Rattle.cover_problem.specs.declared.answer.Answer.{Answer}
use Rattle.cover_world.specs.Courses.{opening_core}
use Rattle.cover_world.specs.Safety.{published}
use Rattle.cover_world.specs.Simulation.{Simulated, Simulation, simulation}
use Rattle.cover_world.specs.Worlds.{World}
use Rattle.rand_core.specs.Pcg32Seed.{pcg32_seed}
use Rattle.rand_pcg.specs.Lcg.{Lcg}
use Rattle.rand_pcg.specs.Pcg.{pcg32_of_seed}
use Rattle.search_engines.specs.Output.{Said, published_said}
use Rattle.run_settings.specs.declared.settings.Settings.{Settings}

-- the generator of a seed
abbrev pub seeded : ℕ → Lcg
seeded seed = pcg32_of_seed (pcg32_seed 16 seed)

-- what the simulation begins with: a world of so many nodes, the generator of the seed, and so many restarts
abbrev pub beginning : Problem → Settings → Simulation
beginning problem settings = simulation (opening_core problem settings.nodes).world (seeded settings.seed) settings.restarts

-- A world that the simulation comes to.
abbrev pub IsEnd : Problem → Settings → World → Type 0
IsEnd problem settings end = Simulated problem settings.fuel settings.turns (beginning problem settings) end

-- The answer, or none, is what a world publishes that the simulation comes to.
pub record IsSimulated (problem : Problem) (settings : Settings) (answer : Option Answer) : Type 0 where
  pub end : World
  pub is_end : IsEnd problem settings end
  pub is : answer ≡ published problem end

-- It says what is published so.
pub record SimulateSays (settings : Settings) (problem : Problem) (what : Said) : Type 0 where
  pub answer : Option Answer
  pub comes : IsSimulated problem settings answer
  pub is : what ≡ published_said problem answer
