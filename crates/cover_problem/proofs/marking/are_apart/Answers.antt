use Rattle.std.proofs.Common.{refl, sym, ◌∙◌, get_or}
use Rattle.cover_problem.proofs.Marks.{marked_none, marked_more, unfit}
use Rattle.cover_problem.proofs.marking.are_apart.Goals as goal

pub loop-option-init : goal.loop-option-init
loop-option-init c = marked_none _ _ 1000 c.recall_rules.ensures.names refl

pub returns-then-not-fits : goal.returns-then-not-fits
returns-then-not-fits c =
    let place = c.loop-option.option-index in
    sym (unfit c.args.problem.now c.loop-option.marks c.args.options.now place (get_or c.args.options.now place 0) c.recall_rules.ensures (c.requires place 0 c.loop-option-test.true) c.loop-option.invariant c.loop-option-test.true refl (sym c.fits.ensures ∙ c.if-not-fits.true))

pub loop-option-preserved : goal.loop-option-preserved
loop-option-preserved c =
    let place = c.loop-option.option-index in
    marked_more c.args.problem.now c.loop-option.marks c.mark.new.marks c.args.options.now place (get_or c.args.options.now place 0) c.recall_rules.ensures (c.requires place 0 c.loop-option-test.true) c.loop-option.invariant c.loop-option-test.true refl (sym c.fits.ensures ∙ c.if-not-fits.false) c.mark.ensures.long c.mark.ensures.each
