use Rattle.std.proofs.Common.{◌<◌, ◌∙◌, ap, arith, length}
use Rattle.dancing_links.proofs.Laid.{first_push, left_next}
use Rattle.dancing_links.proofs.layout.first_nodes.Goals as goal

pub loop-option-preserved : goal.loop-option-preserved
loop-option-preserved c =
    let options = c.args.problem.now.options in
    let inside : c.loop-option.option < length options = omega (arith, c.options-option-end.ensures.count) in
    record {
      first = rw (c.in_ok-push.ensures.items, c.option.ensures.items) (first_push c.loop-option.list.items options c.loop-option.option c.loop-option.node inside ∙ c.loop-option.invariant.first);
      left = omega (arith, ap length c.option.ensures.items, left_next options c.loop-option.option inside, c.loop-option.invariant.left);
    }
