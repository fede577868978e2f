use Rattle.std.proofs.Common.{◌≡◌, ℕ, ◌<◌, ◌≤◌, ◌==◌, not, length, List, ap, subst, arith}
use Rattle.std.specs.List.{sum}
use Rattle.cover_reasons.specs.Room.{amount_of}
use Rattle.cover_certificates.specs.Cases.{has_item}
use Rattle.cover_certificates.proofs.Adding.{room_stuck}
use Rattle.cover_certificates.proofs.reasons.items_by_room.Goals as goal

pub returns : goal.returns
returns c =
    let p = c.args.problem.now in
    let r = c.args.room.now in
    let few_needs : length r.needs ≤ p.primary = omega (arith, c.if-needs-primary.false, ap length c.needs-2.ensures, c.primary-2.ensures.count) in
    let few_rooms : length r.rooms ≤ length p.names = omega (arith, c.if-rooms-items.false, ap length c.rooms.ensures, c.items-else-needs-primary.ensures.count) in
    let more : sum r.rooms < sum r.needs = omega (arith, c.if-whole_amount.false, c.whole_amount.ensures, c.whole_amount-else-rooms-items.ensures, ap sum c.rooms-else-rooms-items.ensures, ap sum c.needs-else-rooms-items.ensures) in
    room_stuck p c.args.case.now c.in_ok-items.items c.items-else-whole_amount.result.now r c.primary.result c.recall_rules.ensures c.primary.ensures.count
    c.items-else-whole_amount.ensures c.in_ok-items.ensures.long
    (subst (λ (l : List ℕ). (i : ℕ) → i < c.primary.result → has_item c.in_ok-items.items i ≡ not (amount_of l i == 0)) c.needs.ensures c.in_ok-items.ensures.some)
    few_needs few_rooms more (c.is_within.ensures c.if-not-is_within.false) (c.are_plain.ensures c.if-not-are_plain.false) (c.all_fit.ensures c.if-not-all_fit.false)
