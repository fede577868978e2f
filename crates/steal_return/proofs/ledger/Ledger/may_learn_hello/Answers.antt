use Rattle.std.proofs.Common.{Bool, true, false, subst}
use Rattle.std.specs.Bool.{OnFalse}
use Rattle.steal_return.proofs.Hellos.{spent_same}
use Rattle.steal_return.proofs.ledger.Ledger.may_learn_hello.Goals as goal
use Rattle.steal_return.specs.Members.{IsSpent, is_earlier_incarnation, raised}

-- what follows where the test is false
on_false : (b : Bool) (P Q : Type 0) → (P → Q) → OnFalse b P → OnFalse b Q
on_false true P Q then h = h
on_false false P Q then h = then h

pub returns-clause-spent : goal.returns-clause-spent
returns-clause-spent c =
    on_false c.is_redoable.result _ _
    (λ spent.
    subst (λ l. IsSpent (is_earlier_incarnation c.args.from.node (raised l.known c.args.from.node c.args.from.incarnation)) l.own) c.self.view_is
    (spent_same c.self.inside.known c.args.from c.self.inside.table.own c.self.invariant.none_outrun spent))
    c.is_redoable.ensures.spent
