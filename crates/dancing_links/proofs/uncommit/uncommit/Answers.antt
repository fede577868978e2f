use Rattle.std.proofs.Common.{sym, ◌∙◌}
use Rattle.dancing_links.proofs.Commits.{uncommit_plain}
use Rattle.dancing_links.proofs.uncommit.uncommit.Goals as goal

pub returns-then-colour-eq0-clause-commits : goal.returns-then-colour-eq0-clause-commits
returns-then-colour-eq0-clause-commits c = sym (uncommit_plain c.args.layout.now c.args.commits.now c.args.node (sym c.colour_at-colour.ensures.colour ∙ c.if-colour-eq0.true))
