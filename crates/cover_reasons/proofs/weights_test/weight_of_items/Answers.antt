use Rattle.std.proofs.Common.{◌+◌, ◌∙◌, arith}
use Rattle.std.proofs.lemmas.Nat.{mod_below}
use Rattle.cover_reasons.specs.Weights.{weight_of}
use Rattle.cover_reasons.proofs.Steps.{weighed_more}
use Rattle.cover_reasons.proofs.weights_test.weight_of_items.Goals as goal

pub loop-item-preserved : goal.loop-item-preserved
loop-item-preserved c = record {
  small = omega (arith, mod_below (c.loop-item.weight + c.from.result) c.modulus-modulus.result (omega (arith, c.modulus-modulus.ensures.modulus, c.modulus-modulus.ensures.least)), c.modulus-modulus.ensures.modulus, c.modulus-modulus.ensures.most);
  so_far = weighed_more (weight_of c.args.weights.now) c.args.items.now c.loop-item.item-index c.args.weights.now.modulus c.modulus-modulus.result c.loop-item.weight c.from.result c.loop-item-test.true c.loop-item.invariant.so_far (c.from.ensures ∙ c.of.ensures) c.modulus-modulus.ensures.modulus;
}
