use Rattle.std.proofs.Common.{◌+◌, length, get_or, ap, ◌∙◌, arith}
use Rattle.std.proofs.lemmas.Nat.{mod_below}
use Rattle.cover_reasons.proofs.Steps.{weighed_more}
use Rattle.cover_reasons.proofs.weights_test.whole_weight.Goals as goal

pub loop-weight-preserved : goal.loop-weight-preserved
loop-weight-preserved c = record {
  small = omega (arith, mod_below (c.loop-weight.whole + c.from.result) c.modulus-modulus.result (omega (arith, c.modulus-modulus.ensures.modulus, c.modulus-modulus.ensures.least)), c.modulus-modulus.ensures.modulus, c.modulus-modulus.ensures.most);
  so_far = weighed_more (λ x. x) c.args.weights.now.list c.loop-weight.weight-index c.args.weights.now.modulus c.modulus-modulus.result c.loop-weight.whole c.from.result (omega (arith, c.loop-weight-test.true, ap length c.as_slice-weight-items.ensures)) c.loop-weight.invariant.so_far (c.from.ensures ∙ ap (λ xs. get_or xs c.loop-weight.weight-index 0) c.as_slice-weight-items.ensures) c.modulus-modulus.ensures.modulus;
}
