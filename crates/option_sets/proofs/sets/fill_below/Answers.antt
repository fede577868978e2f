use Rattle.std.proofs.Common.{arith}
use Rattle.option_sets.proofs.Filling.{filled_more, filled_all}
use Rattle.option_sets.proofs.sets.fill_below.Goals as goal

pub loop-place-preserved : goal.loop-place-preserved
loop-place-preserved c =
    filled_more c.loop-place.set c.word_below.result c.args.options c.loop-place.place (omega (arith, c.loop-place-test.true, c.loop-place.auto.set))
    (omega (arith, c.loop-place-test.true, c.requires)) c.word_below.ensures c.loop-place.invariant

pub returns : goal.returns
returns c =
    filled_all c.loop-place.set c.args.options (omega (arith, c.requires, c.loop-place.auto.set))
    (λ x low. c.loop-place.invariant x (omega (arith, low, c.loop-place-test.false, c.loop-place.auto.set)))
