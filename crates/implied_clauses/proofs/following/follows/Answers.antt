use Rattle.std.proofs.Common.{length, ap, ◌∙◌}
use Rattle.std.proofs.lemmas.List.{length-replicate}
use Rattle.implied_clauses.proofs.Refuting.{length-deny}
use Rattle.implied_clauses.proofs.following.follows.Goals as goal

pub returns-clause-long : goal.returns-clause-long
returns-clause-long c =
    c.refutes.ensures.long ∙ ap length c.deny.ensures ∙ length-deny c.begin.new.self c.args.clause.now ∙ ap length c.begin.ensures ∙ length-replicate (length c.args.assumed.now) _
