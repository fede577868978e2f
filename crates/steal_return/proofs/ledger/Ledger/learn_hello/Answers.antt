use Rattle.std.proofs.Common.{◌≡◌, suc, ◌-◌, ◌≤◌, length, refl, sym, ap, subst, ◌∙◌}
use Rattle.steal_return.proofs.Hellos.{learns_hello, spent_same}
use Rattle.steal_return.proofs.Learning.{raised_length}
use Rattle.steal_return.proofs.Outrun.{redo_leaves}
use Rattle.steal_return.proofs.ledger.Ledger.learn_hello.Goals as goal
use Rattle.steal_return.specs.Invariant.{NoneOutrun}
use Rattle.steal_return.specs.Members.{IsSpent, is_earlier_incarnation, raised}

pub returns-then-not-is_redoable-clause-spent : goal.returns-then-not-is_redoable-clause-spent
returns-then-not-is_redoable-clause-spent c = (
  λ _.
      subst (λ l. IsSpent (is_earlier_incarnation c.args.from.node (raised l.known c.args.from.node c.args.from.incarnation)) l.own) c.self.view_is
      (spent_same c.self.inside.known c.args.from c.self.inside.table.own c.self.invariant.none_outrun c.if-not-is_redoable.ensures.spent),
  λ _. refl,
)

kept : (c : goal.After-redo_lost) → length c.raise.new.self ≡ length c.self.inside.known
kept c = ap length c.raise.ensures ∙ raised_length c.self.inside.known c.args.from.node c.args.from.incarnation

pub invariant_of-self : goal.invariant_of-self
invariant_of-self c =
    let nodes = ap (λ n. n - 1) (kept c) in
    record {
      each = kept c ∙ c.self.invariant.each ∙ ap suc (sym nodes);
      within =
          subst (λ n. c.redo_lost.new.table.site.node ≤ n) (sym nodes)
          (subst (λ t. t.site.node ≤ length c.self.inside.known - 1) (sym c.redo_lost.ensures) c.self.invariant.within);
      none_outrun = subst (λ t. NoneOutrun c.raise.new.self t.own) (sym c.redo_lost.ensures) (redo_leaves c.raise.new.self c.self.inside.table.own);
    }

pub returns-clause-ok : goal.returns-clause-ok
returns-clause-ok c =
    learns_hello _ c.args.self.now c.self.view_is c.args.from c.raise.new.self c.redo_lost.new.table refl c.self.invariant.none_outrun
    c.raise.ensures c.if-not-is_redoable.ensures.able c.redo_lost.ensures
