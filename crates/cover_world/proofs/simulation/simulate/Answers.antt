use Rattle.cover_world.specs.Worlds.{after}
use Rattle.cover_world.proofs.simulation.simulate.Goals as goal

pub returns-in_err-play-clause-holds : goal.returns-in_err-play-clause-holds
returns-in_err-play-clause-holds c = λ nodes limits middle e g f. (
  c.safe_over_every_run.ensures.safe c.args.world.now.problem nodes limits middle c.play.new.world.world (after e g) f,
  c.safe_over_every_run.ensures.covered c.args.world.now.problem nodes limits middle (after e g),
)

pub returns-clause-holds : goal.returns-clause-holds
returns-clause-holds c = λ nodes limits middle e g f. (
  c.safe_over_every_run.ensures.safe c.args.world.now.problem nodes limits middle c.bring_to_an_end.new.world.world (after e g) f,
  c.safe_over_every_run.ensures.covered c.args.world.now.problem nodes limits middle (after e g),
)
