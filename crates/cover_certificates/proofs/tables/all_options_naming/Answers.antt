use Rattle.std.proofs.Common.{◌∙◌}
use Rattle.cover_certificates.specs.Tables.{options_naming}
use Rattle.option_sets.proofs.Barring.{named_more}
use Rattle.cover_certificates.proofs.tables.all_options_naming.Goals as goal

pub loop-item-preserved : goal.loop-item-preserved
loop-item-preserved c = c.in_ok-push.ensures.items ∙ named_more (options_naming c.args.problem.now) c.loop-item.lists.items c.loop-item.item c.in_ok-options_naming.field-0 c.loop-item.invariant c.in_ok-options_naming.ensures
