use Rattle.std.proofs.Common.{length, ap, ◌∙◌, arith}
use Rattle.steal_return.proofs.Learning.{known_length}
use Rattle.steal_return.proofs.known.Known.learnt.Goals as goal
use Rattle.steal_return.specs.Members.{now_known}

pub invariant_of-result : goal.invariant_of-result
invariant_of-result c =
    let known = c.args.self.now in
    let same =
    ap length c.in_ok-learnt.ensures ∙ ap (λ k. length (now_known c.args.own k c.args.incarnations.now)) c.as_slice.ensures.value
    ∙ known_length c.args.own known c.args.incarnations.now c.as_slice.ensures.known.some in
    record { some = omega (arith, same, c.as_slice.ensures.known.some); few = omega (arith, same, c.as_slice.ensures.known.few) }
