use Rattle.std.proofs.Common.{sym}
use Rattle.steal_return.proofs.Giving.{may_give}
use Rattle.steal_return.proofs.ledger.Ledger.ready_child.Goals as goal

pub returns : goal.returns
returns c =
    may_give _ c.args.self.now c.self.view_is c.args.thief c.first_ready.result
    (sym c.if-is_older.ensures) c.first_ready.ensures
