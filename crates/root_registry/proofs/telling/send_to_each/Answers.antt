use Rattle.std.proofs.Common.{refl, arith}
use Rattle.root_registry.proofs.Eaching.{each_sent}
use Rattle.root_registry.proofs.telling.send_to_each.Goals as goal

pub loop-place-preserved : goal.loop-place-preserved
loop-place-preserved c =
    each_sent c.args.out.now c.loop-place.out c.send_to_node.new.out c.args.from c.args.body.now c.args.incarnations.now c.loop-place.place _ _
    (omega (arith, c.loop-place-test.true)) (omega arith) refl c.loop-place.invariant c.in_ok-send_to_node.ensures.ok
