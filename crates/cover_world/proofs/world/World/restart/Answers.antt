use Rattle.std.proofs.Common.{refl, subst}
use Rattle.cover_world.proofs.WorldSteps.{makes_anew}
use Rattle.cover_world.specs.Courses.{Makes, WorldCore}
use Rattle.cover_world.specs.Moves.{names_limit}
use Rattle.cover_world.specs.Worlds.{Restarts, World}
use Rattle.cover_world.proofs.world.World.restart.Goals as goal
use Rattle.node_core.specs.declared.reply.Reply.TheVariants.{Moved}

pub returns-clause-step : goal.returns-clause-step
returns-clause-step c =
    let old : World = record { sites = c.self.inside.sites.sites; sent = c.self.inside.sent.items } in
    let new : World = record { sites = c.restart.new.self.sites; sent = c.self.inside.sent.items } in
    let move = Restarts c.args.node c.args.incarnation names_limit in
    record {
      move = move;
      is = refl;
      makes =
          subst (λ (s : WorldCore). Makes s.problem s.world move Moved new) c.self.view_is
          (makes_anew c.self.inside.sites.problem old new c.args.node c.args.incarnation names_limit c.in_ok-restart.ensures.begins refl);
    }
