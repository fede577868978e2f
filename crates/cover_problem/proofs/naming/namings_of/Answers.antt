use Rattle.std.proofs.Common.{refl, get_or}
use Rattle.cover_problem.proofs.Namings.{named_none, named_more}
use Rattle.cover_problem.proofs.naming.namings_of.Goals as goal

pub loop-option-init : goal.loop-option-init
loop-option-init c = named_none _ _ 1000 c.recall_rules.ensures.names refl

pub loop-option-preserved : goal.loop-option-preserved
loop-option-preserved c =
    let place = c.loop-option.option-index in
    named_more c.args.problem.now c.loop-option.namings c.add_option.new.namings c.args.options.now place (get_or c.args.options.now place 0) c.loop-option-test.true refl c.loop-option.invariant c.add_option.ensures.long c.add_option.ensures.each
