use Rattle.std.proofs.Common.{◌≡◌, ◌-◌, max, get_or, ap, ◌∙◌, arith}
use Rattle.steal_return.proofs.Learning.{known_other, known_own, known_untold, known_zero}
use Rattle.steal_return.proofs.known.later_incarnation.Goals as goal
use Rattle.steal_return.proofs.known.later_incarnation.Goals.{then-node-eq0-via-then-node-eq0, then-node-eq0-via-else-node-eq0+then-node-own}

pub returns-then-node-eq0 : goal.returns-then-node-eq0
returns-then-node-eq0 c =
    elim c.then-node-eq0.branch [
      | then-node-eq0-via-then-node-eq0 w ↦ known_zero c.args.own c.args.known.now c.args.incarnations.now c.args.node c.requires w.if-node-eq0.true
      | then-node-eq0-via-else-node-eq0+then-node-own w ↦ known_own _ _ _ _ c.requires w.if-node-own.true
    ]

pub returns-in-Some : goal.returns-in-Some
returns-in-Some c =
    let told : c.in-Some.told.now ≡ get_or c.args.incarnations.now (c.args.node - 1) 0 = c.in-Some.ensures.lookup.4 (omega arith) 0 in
    c.later_of.ensures ∙ ap (λ n. max (get_or c.args.known.now c.args.node 0) n) told
    ∙ known_other _ c.args.known.now _ c.args.node c.requires c.if-node-eq0.false c.if-node-own.false

pub returns-in-None : goal.returns-in-None
returns-in-None c =
    known_untold c.args.own c.args.known.now c.args.incarnations.now c.args.node c.requires c.if-node-eq0.false c.if-node-own.false c.in-None.ensures.lookup.3
