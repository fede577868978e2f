use Rattle.std.proofs.Common.{◌+◌, take, sym, ap, ◌∙◌}
use Rattle.implied_clauses.specs.Following.{open_literals}
use Rattle.implied_clauses.specs.Rests.{rest_of}
use Rattle.implied_clauses.proofs.Refuting.{open_early, open_more}
use Rattle.implied_clauses.proofs.rest.rest_of.Goals as goal

pub returns-in-Open : goal.returns-in-Open
returns-in-Open c =
    let assumed = c.args.assumed.now in
    let clause = c.args.clause.now in
    let i = c.loop-literal.literal-index in
    open_early assumed clause (i + 1)
    (sym c.in-Open.is ∙ c.rest_with-rest.ensures (open_literals assumed (take i clause)) c.loop-literal.invariant ∙ ap rest_of (sym (open_more assumed clause i _ c.loop-literal-test.true)))

pub loop-literal-preserved : goal.loop-literal-preserved
loop-literal-preserved c =
    let assumed = c.args.assumed.now in
    let clause = c.args.clause.now in
    let i = c.loop-literal.literal-index in
    c.rest_with-rest.ensures (open_literals assumed (take i clause)) c.loop-literal.invariant ∙ ap rest_of (sym (open_more assumed clause i _ c.loop-literal-test.true))
