use Rattle.std.proofs.Common.{ap, ◌∙◌}
use Rattle.spawn_frame.specs.Gifts.{serials_of}
use Rattle.steal_return.proofs.Each.{serials_at}
use Rattle.steal_return.proofs.ledger.Ledger.give.Goals as goal

pub returns-clause-chosen : goal.returns-clause-chosen
returns-clause-chosen c =
    ap serials_of c.in_ok-given.ensures.gifts ∙ serials_at c.args.self.now.own c.deref.result.now ∙ c.deref.ensures.0 ∙ c.in-Some.ensures.chosen_so
