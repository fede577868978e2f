use Rattle.std.proofs.Common.{slice_get, ap, ◌∙◌}
use Rattle.spawn_frame.specs.Tables.{parent_in}
use Rattle.steal_return.proofs.Shares.{may_share}
use Rattle.steal_return.proofs.ledger.Ledger.ready_share.Goals as goal
use Rattle.steal_return.specs.Shares.{share_with}

pub returns : goal.returns
returns c =
    may_share c.args.self.now c.args.thief c.in_ok-serial.serial c.share_with.result.items c.in_ok-serial.ensures
    (c.share_with.ensures ∙ ap (λ l. share_with (parent_in (slice_get l.own c.in_ok-serial.serial)) c.in_ok-serial.serial l.own) c.self.view_is)
