use Rattle.std.proofs.Common.{◌≡◌, ℕ, ◌<◌, ◌≤◌, ◌==◌, not, length, List, ap, subst, arith}
use Rattle.cover_reasons.specs.Room.{amount_of}
use Rattle.cover_certificates.specs.Cases.{has_item}
use Rattle.cover_certificates.proofs.Adding.{weights_stuck}
use Rattle.cover_certificates.proofs.reasons.items_by_weights.Goals as goal

pub returns : goal.returns
returns c =
    let w = c.args.weights.now in
    let few : length w.list ≤ c.args.problem.now.primary = omega (arith, c.if-as_slice-primary.false, ap length c.as_slice-2.ensures, c.primary-2.ensures.count) in
    weights_stuck c.args.problem.now c.args.case.now c.in_ok-items.items c.items-else-whole_weight-eq0.result.now w c.primary.result c.whole_weight.result c.recall_rules.ensures c.primary.ensures.count
    c.items-else-whole_weight-eq0.ensures c.in_ok-items.ensures.long
    (subst (λ (l : List ℕ). (i : ℕ) → i < c.primary.result → has_item c.in_ok-items.items i ≡ not (amount_of l i == 0)) c.as_slice.ensures c.in_ok-items.ensures.some)
    few c.whole_weight.ensures c.if-whole_weight-eq0.false (c.is_within.ensures c.if-not-is_within.false) (c.are_light.ensures c.if-not-are_light.false)
