use Rattle.std.proofs.Common.{◌+◌, refl, ap, ◌∙◌, arith}
use Rattle.cover_world.proofs.Courses.{at_most_one, takes_more, takes_none}
use Rattle.cover_world.specs.declared.world_event.WorldEvent.TheVariants.{Take}
use Rattle.cover_world.proofs.world.World.go_through.Goals as goal

pub loop-at-init : goal.loop-at-init
loop-at-init c = (refl, takes_none c.args.self.now.problem c.args.self.now.world, omega arith)

pub loop-at-preserved : goal.loop-at-preserved
loop-at-preserved c =
    let now = c.args.self.now in
    let before = c.loop-at.invariant in (
      c.pass.ensures.problem ∙ before.0,
      takes_more now.problem now.world c.loop-at.self.problem c.args.events.now (Take 0) c.loop-at.at c.loop-at.done _ c.loop-at.self.world
          c.pass.new.self.world c.in-Ok.took c.loop-at-test.true before.0 (ap (λ n. c.loop-at.done + n) c.from-done.ensures) before.1 c.in-Ok.ensures.passes,
      (let one = at_most_one c.in-Ok.took in omega (arith, before.2, c.from-done.ensures, one)),
    )
