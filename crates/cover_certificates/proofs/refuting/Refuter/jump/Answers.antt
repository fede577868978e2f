use Rattle.cover_certificates.proofs.Trying.{idle_choice}
use Rattle.cover_certificates.proofs.refuting.Refuter.jump.Goals as goal

pub returns : goal.returns
returns c =
    idle_choice c.self.inside.tables.now c.args.self.now c.args.case.now c.args.child.now c.args.items.now c.live.result.now c.live-2.result.now c.self.view_is c.live.ensures c.live-2.ensures
    c.requires.stuck c.requires.within (c.are_spared.ensures c.if-not-are_spared.false)
