use Rattle.cover_world.proofs.Simulating.{drawn_so}
use Rattle.cover_world.proofs.simulation.draw.Goals as goal
use Rattle.cover_world.specs.Simulation.{simulation}

pub returns-clause-draws : goal.returns-clause-draws
returns-clause-draws c =
    drawn_so c.args.world.now.problem c.args.fuel (simulation c.args.world.now.world c.args.rng.now c.args.restarts) c.draw_event-event.result c.draw_event-event.new.rng
    c.try_event.new.world.world c.left_after.result c.draw_event-event.ensures c.in_ok-try_event.ensures.tries c.left_after.ensures
