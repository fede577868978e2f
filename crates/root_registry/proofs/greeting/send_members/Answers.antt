use Rattle.std.proofs.Common.{◌≡◌, ◌≤◌, ℕ, suc, List, length, drop, ap, sym, ◌∙◌, subst}
use Rattle.root_registry.proofs.Hellos.{raised_few}
use Rattle.root_registry.proofs.greeting.send_members.Goals as goal
use Rattle.root_registry.specs.RegistryStep.{raised}
use Rattle.steal_return.specs.Ledger.{Ledger}

pub send_to_each-requires : goal.send_to_each-requires
send_to_each-requires c =
    let each = subst (λ (l : Ledger). length l.known ≡ suc l.nodes) c.ledger-ledger.ensures c.table-table.ensures.ledger.each in
    let told =
    c.as_slice.ensures ∙ c.from_vec-incarnations.ensures ∙ c.in_ok-later.ensures
    ∙ ap (λ k. drop 1 (raised k c.args.from.node c.args.from.incarnation)) (c.incarnations.ensures ∙ ap (λ (l : Ledger). l.known) c.ledger-ledger.ensures) in
    subst (λ (l : List ℕ). length l ≤ 16) (sym told)
    (raised_few c.args.state.now.known c.args.from.node c.args.from.incarnation c.args.state.now.nodes each c.requires.most)
