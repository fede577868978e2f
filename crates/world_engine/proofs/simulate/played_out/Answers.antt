use Rattle.std.proofs.Common.{subst}
use Rattle.cover_world.specs.Courses.{WorldCore, opening_core}
use Rattle.cover_world.specs.Simulation.{Simulated, simulation}
use Rattle.rand_pcg.specs.Lcg.{Lcg}
use Rattle.world_engine.proofs.Publishing.{comes, ordered}
use Rattle.world_engine.specs.Simulate.{IsEnd}
use Rattle.world_engine.proofs.simulate.played_out.Goals as goal

pub returns-in-Ok-clause-simulated : goal.returns-in-Ok-clause-simulated
returns-in-Ok-clause-simulated c =
    let problem = c.args.world.now.problem in
    let settings = c.args.settings.now in
    let end = c.simulate-ended.new.world.world in
    let begun = subst (λ (w : WorldCore). Simulated w.problem settings.fuel settings.turns (simulation w.world c.seed_from_u64-rng.result settings.restarts) end) c.requires c.in-Ok.ensures.simulated in
    let is_end : IsEnd problem settings end = subst (λ (rng : Lcg). Simulated problem settings.fuel settings.turns (simulation (opening_core problem settings.nodes).world rng settings.restarts) end) c.seed_from_u64-rng.ensures begun in
    comes problem c.simulate-ended.new.world.problem settings end _ c.copied.result c.copied.ensures.answer c.published.ensures c.simulate-ended.ensures.problem is_end

pub returns-in-Ok-clause-order : goal.returns-in-Ok-clause-order
returns-in-Ok-clause-order c =
    ordered c.args.world.now.problem c.simulate-ended.new.world.problem c.simulate-ended.new.world.world _ c.copied.result c.copied.ensures.answer c.published.ensures c.simulate-ended.ensures.problem
