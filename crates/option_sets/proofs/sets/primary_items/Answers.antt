use Rattle.std.proofs.Common.{◌∙◌}
use Rattle.option_sets.specs.ClashTables.{primary_of}
use Rattle.option_sets.proofs.Barring.{named_more}
use Rattle.option_sets.proofs.sets.primary_items.Goals as goal

pub loop-option-preserved : goal.loop-option-preserved
loop-option-preserved c = c.in_ok-push.ensures.items ∙ named_more (primary_of c.args.problem.now) c.loop-option.lists.items c.loop-option.option c.in_ok-primary_items_of.field-0 c.loop-option.invariant c.in_ok-primary_items_of.ensures
