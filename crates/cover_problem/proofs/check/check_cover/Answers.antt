use Rattle.std.proofs.Common.{◌∙◌, sym, subst}
use Rattle.cover_problem.specs.Verdict.{TellsItemOf}
use Rattle.cover_problem.specs.declared.verdict.Verdict.{Verdict}
use Rattle.cover_problem.proofs.Checks.{told_item, verdict_exact}
use Rattle.cover_problem.proofs.check.check_cover.Goals as goal

pub returns-clause-exact : goal.returns-clause-exact
returns-clause-exact c =
    let told = c.verdict_on.ensures in
    let law = verdict_exact c.args.problem.now c.args.options.now c.recall_rules.ensures in
    ((λ exact. law.0 (sym told ∙ exact)), (λ both. told ∙ law.1 both))

pub returns-clause-item : goal.returns-clause-item
returns-clause-item c =
    let Tells : Verdict → Type 0 = λ verdict. TellsItemOf c.args.problem.now verdict in
    subst Tells (sym c.verdict_on.ensures) (told_item c.args.problem.now c.args.options.now c.recall_rules.ensures)
