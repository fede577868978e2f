use Rattle.std.proofs.Common.{sym, subst}
use Rattle.std.specs.Prelude.{IfOk}
use Rattle.cover_world.proofs.WorldSteps.{makes}
use Rattle.cover_world.specs.Courses.{Makes, WorldCore}
use Rattle.cover_world.specs.Worlds.{Acts, WasSent, World}
use Rattle.cover_world.proofs.world.World.act.Goals as goal

pub returns-clause-makes : goal.returns-clause-makes
returns-clause-makes c =
    let old : World = record { sites = c.self.inside.sites.sites; sent = c.self.inside.sent.items } in
    let new : World = record { sites = c.act.new.self.sites; sent = c.act.new.out.items } in
    let sent : WasSent old.sent c.args.event = subst (λ (s : WorldCore). WasSent s.world.sent c.args.event) (sym c.self.view_is) c.requires.sent in
    subst (λ (s : WorldCore). IfOk c.act.result (λ reply. Makes s.problem s.world (Acts c.args.node c.args.event) reply new)) c.self.view_is
    (makes c.self.inside.sites.problem old new c.act.result c.args.node c.args.event sent c.act.ensures.acts)
