use Rattle.std.proofs.Common.{sym, subst, ◌∙◌}
use Rattle.implied_clauses.specs.Clauses.{AreImplied, IsImplied}
use Rattle.implied_clauses.proofs.Implying.{put_implied, refuted_by}
use Rattle.implied_clauses.proofs.clauses.ImpliedClauses.admit.Goals as goal

pub invariant_of-self-2 : goal.invariant_of-self-2
invariant_of-self-2 c =
    let problem = c.self.inside.problem.now in
    let implied : IsImplied problem c.args.clause.now = subst (λ v. IsImplied v.problem c.args.clause.now) (sym c.self.view_is) c.requires.implied in (
      subst (AreImplied problem) (sym c.in_ok-put.ensures.ok)
          (put_implied problem c.self.inside.clauses.items c.args.place c.in_ok-copy.copy c.self.invariant.0 (subst (IsImplied problem) (sym c.in_ok-copy.ensures) implied)),
      λ e. refuted_by problem c.self.inside.refuted c.args.clause.now c.self.invariant.1 implied (sym c.is_refuted_by-self-inside.ensures ∙ e),
      c.self.invariant.2,
    )
