use Rattle.std.proofs.Common.{subst}
use Rattle.cover_problem.specs.Problem.{Problem}
use Rattle.cover_certificates.specs.Cases.{AreStuckIn}
use Rattle.cover_certificates.proofs.Trying.{no_cover, none_first}
use Rattle.cover_certificates.proofs.certificate.check_lines.Goals as goal

pub returns-in-Ok-clause-cover : goal.returns-in-Ok-clause-cover
returns-in-Ok-clause-cover c right =
    let S : Problem → Type 0 = λ p. AreStuckIn p c.in_ok-whole.whole c.in-Ok.field-0 in
    no_cover c.args.tables.now c.in_ok-whole.whole c.in-Ok.field-0 c.in_ok-whole.ensures.items c.in_ok-whole.ensures.live (subst S c.requires c.in-Ok.ensures.stuck)

pub returns-in-Ok-clause-first : goal.returns-in-Ok-clause-first
returns-in-Ok-clause-first c right = none_first c.args.tables.now (returns-in-Ok-clause-cover c right)
