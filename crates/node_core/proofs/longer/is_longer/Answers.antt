use Rattle.std.proofs.Common.{sym, ◌∙◌, arith}
use Rattle.node_core.proofs.Lengthened.{live_longer, not_before}
use Rattle.node_core.proofs.longer.is_longer.Goals as goal

pub returns-then-not-is_prefix : goal.returns-then-not-is_prefix
returns-then-not-is_prefix c = sym (not_before c.args.problem.now c.args.prefix.now c.args.option (sym c.is_prefix.ensures ∙ c.if-not-is_prefix.true))

pub returns : goal.returns
returns c =
    c.is_live.ensures
    ∙ live_longer c.args.problem.now c.args.prefix.now c.args.option c.options.ensures.problem (sym c.is_prefix.ensures ∙ c.if-not-is_prefix.false) (omega (arith, c.if-options-option.false, c.options.ensures.count))
