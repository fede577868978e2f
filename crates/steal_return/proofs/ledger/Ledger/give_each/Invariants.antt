use Rattle.steal_return.proofs.Each.{Giving}
use Rattle.steal_return.proofs.ledger.Ledger.give_each.Given as goal
use Rattle.steal_return.specs.Shares.{MayGoTogether}

abbrev pub invariant-loop-serial : goal.invariant-loop-serial
invariant-loop-serial l = (h : MayGoTogether l.initial.self.own l.serials) → Giving l.initial.self l.self l.thief h.parent l.serials l.serial-index
