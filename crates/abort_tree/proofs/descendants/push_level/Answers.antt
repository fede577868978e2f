use Rattle.std.proofs.Common.{◌<◌, ◌≤◌, length, arith, ⊎_elim}
use Rattle.std.proofs.lemmas.Bool.{cases_lt}
use Rattle.abort_tree.specs.Below.{IsListed}
use Rattle.abort_tree.proofs.Walking.{adds_same, listed_next}
use Rattle.abort_tree.proofs.descendants.push_level.Goals as goal

pub loop-place-preserved : goal.loop-place-preserved
loop-place-preserved c =
    let old = c.args.serials.now.items in
    let place = c.loop-place.place in
    let lt : place < length old = omega (arith, c.loop-place-test.true, c.len-place-end.ensures) in
    record {
      added = listed_next c.args.table.now.own old c.loop-place.serials.items c.push_children.new.serials.items c.args.first place c.index-serial.result.now (c.loop-place.auto.place) lt c.index-serial.ensures c.loop-place.invariant.added c.in_ok-push_children.ensures;
      within = λ i l r. ⊎_elim
          (λ (m : i < place). c.loop-place.invariant.within i l m)
          (λ (m : place ≤ i). omega (arith, m, r, lt))
          (cases_lt i place);
    }

pub returns : goal.returns
returns c =
    let old = c.args.serials.now.items in
    let first = c.args.first in
    let place = c.loop-place.place in
    adds_same (IsListed first place old) (IsListed first (length old) old) c.args.table.now.own old c.loop-place.serials.items
    (λ unit p. (p.0, p.1, c.loop-place.invariant.within p.0 p.1 p.2, p.3))
    (λ unit p. let r = p.2 in (p.0, p.1, omega (arith, r, c.loop-place-test.false, c.len-place-end.ensures), p.3))
    c.loop-place.invariant.added
