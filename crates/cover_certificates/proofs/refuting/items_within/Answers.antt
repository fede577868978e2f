use Rattle.std.proofs.Common.{sym, subst, ◌∙◌}
use Rattle.cover_certificates.specs.Cases.{AreStuckIn}
use Rattle.cover_certificates.proofs.Trying.{stuck_as_kept}
use Rattle.cover_certificates.proofs.refuting.items_within.Goals as goal

pub returns : goal.returns
returns c =
    subst (AreStuckIn c.args.tables.now c.args.case.now) (sym (c.in_ok-copy.ensures ∙ c.items-items.ensures))
    (stuck_as_kept c.args.tables.now c.args.kept.now c.args.case.now c.items-items.result.now c.items.result.now c.live.result.now c.live-else-not-is_within.result.now
    c.requires c.items-items.ensures c.items.ensures c.live.ensures c.live-else-not-is_within.ensures (c.is_within.ensures c.if-not-is_within.false) (c.are_spared.ensures c.if-not-are_spared.false))
