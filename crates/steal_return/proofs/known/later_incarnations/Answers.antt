use Rattle.std.proofs.Common.{◌≡◌, ◌<◌, ◌++◌, ◌∷◌, [], length, take, sym, ap, ◌∙◌, arith}
use Rattle.std.proofs.Math.Seq.{take-length}
use Rattle.std.proofs.lemmas.List.{take_more}
use Rattle.steal_return.proofs.Learning.{known_length}
use Rattle.steal_return.proofs.known.later_incarnations.Goals as goal
use Rattle.steal_return.specs.Members.{now_known}

pub loop-node-preserved : goal.loop-node-preserved
loop-node-preserved c =
    let all = now_known c.args.own c.args.known.now c.args.incarnations.now in
    let within : c.loop-node.node < length all = omega (arith, known_length c.args.own c.args.known.now c.args.incarnations.now c.requires) in
    c.in_ok-push.ensures.items ∙ ap (λ l. l ++ c.later_incarnation.result ∷ []) c.loop-node.invariant
    ∙ ap (λ x. take c.loop-node.node all ++ x ∷ []) c.later_incarnation.ensures ∙ sym (take_more all c.loop-node.node 0 within)

pub returns : goal.returns
returns c =
    let all = now_known c.args.own c.args.known.now c.args.incarnations.now in
    let whole : c.loop-node.node ≡ length all = omega (arith, known_length c.args.own c.args.known.now c.args.incarnations.now c.requires) in
    c.loop-node.invariant ∙ ap (λ n. take n all) whole ∙ take-length all
