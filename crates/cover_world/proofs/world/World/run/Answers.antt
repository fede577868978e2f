use Rattle.cover_world.specs.Worlds.{after}
use Rattle.cover_world.proofs.world.World.run.Goals as goal

pub returns-clause-holds : goal.returns-clause-holds
returns-clause-holds c = λ nodes limits middle e g f. (
  c.safe_over_every_run.ensures.safe c.args.self.now.problem nodes limits middle c.go_through.new.self.world (after e g) f,
  c.safe_over_every_run.ensures.covered c.args.self.now.problem nodes limits middle (after e g),
)
