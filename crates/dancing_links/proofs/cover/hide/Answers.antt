use Rattle.std.proofs.Common.{List, ℕ, [], ◌∷◌, ◌++◌, refl, arith, ap, sym, ◌∙◌, append_assoc, append-nil, length, take, ◌+◌, ◌<◌}
use Rattle.dancing_links.specs.declared.link.Link.{Link}
use Rattle.dancing_links.specs.Keys.{fewer}
use Rattle.dancing_links.specs.Linking.{unlinks}
use Rattle.dancing_links.proofs.Others.{to_come, round_start, round_step, round_end}
use Rattle.std.proofs.lemmas.List.{take_more_set}
use Rattle.dancing_links.specs.Columns.{place_at}
use Rattle.dancing_links.proofs.cover.hide.Goals as goal

pub loop-other-init : goal.loop-other-init
loop-other-init c =
    let cs = c.args.rows.now in
    let start = round_start cs c.args.node c.right_of-other.result c.right_of-other.ensures.table c.requires.node.0 c.requires.node.1 c.right_of-other.ensures.right in
    record {
      linked = c.requires.linked;
      round = start.0;
      links = ap (unlinks c.args.links.now) start.1;
      keys = ap (fewer cs c.args.keys.now) start.1;
      trail = ap (λ (xs : List ℕ). take c.args.top c.args.trail.now ++ xs) start.1;
      top = ap (λ (xs : List ℕ). c.args.top + length xs) start.1;
    }

pub loop-other-smaller : goal.loop-other-smaller
loop-other-smaller c =
    let step = round_step c.args.rows.now c.args.node c.loop-other.other c.right_of-other-in-loop-other.result c.right_of-other.ensures.table c.loop-other.invariant.round c.loop-other-test.true c.right_of-other-in-loop-other.ensures.right in
    omega (arith, step.fewer)

pub loop-other-preserved : goal.loop-other-preserved
loop-other-preserved c =
    let cs = c.args.rows.now in
    let next : ℕ = c.right_of-other-in-loop-other.result in
    let step = round_step c.args.rows.now c.args.node c.loop-other.other c.right_of-other-in-loop-other.result c.right_of-other.ensures.table c.loop-other.invariant.round c.loop-other-test.true c.right_of-other-in-loop-other.ensures.right in
    let inside : c.loop-other.top < length c.loop-other.trail = omega (arith, ap length step.come, c.loop-other.invariant.top, c.requires.room, c.loop-other.auto.trail) in
    let pushed = take_more_set c.loop-other.trail c.loop-other.top c.loop-other.other inside in
    record {
      linked = c.unlink.ensures.linked;
      round = step.round;
      links = ap (λ (m : List Link). unlinks m (to_come cs c.args.node next)) c.unlink.ensures.links ∙ sym (ap (unlinks c.loop-other.links) step.come) ∙ c.loop-other.invariant.links;
      keys = ap (λ (k : List ℕ). fewer cs k (to_come cs c.args.node next)) c.count_less.ensures ∙ sym (ap (fewer cs c.loop-other.keys) step.come) ∙ c.loop-other.invariant.keys;
      trail = ap (λ (xs : List ℕ). xs ++ to_come cs c.args.node next) pushed ∙ append_assoc (take c.loop-other.top c.loop-other.trail) (c.loop-other.other ∷ []) (to_come cs c.args.node next) ∙ sym (ap (λ (xs : List ℕ). take c.loop-other.top c.loop-other.trail ++ xs) step.come) ∙ c.loop-other.invariant.trail;
      top = omega (arith, ap length step.come, c.loop-other.invariant.top);
    }

pub returns-clause-links : goal.returns-clause-links
returns-clause-links c =
    let none = round_end c.args.rows.now c.args.node c.loop-other.other c.loop-other-test.false in
    sym (ap (unlinks c.loop-other.links) none) ∙ c.loop-other.invariant.links

pub returns-clause-keys : goal.returns-clause-keys
returns-clause-keys c =
    let none = round_end c.args.rows.now c.args.node c.loop-other.other c.loop-other-test.false in
    sym (ap (fewer c.args.rows.now c.loop-other.keys) none) ∙ c.loop-other.invariant.keys

pub bounds-trail-top : goal.bounds-trail-top
bounds-trail-top c =
    let cs = c.args.rows.now in
    let step = round_step cs c.args.node c.loop-other.other (place_at cs c.loop-other.other).right c.right_of-other.ensures.table c.loop-other.invariant.round c.loop-other-test.true refl in
    omega (arith, ap length step.come, c.loop-other.invariant.top, c.requires.room)

pub returns-clause-trail : goal.returns-clause-trail
returns-clause-trail c =
    let none = round_end c.args.rows.now c.args.node c.loop-other.other c.loop-other-test.false in
    sym (append-nil (take c.loop-other.top c.loop-other.trail)) ∙ sym (ap (λ (xs : List ℕ). take c.loop-other.top c.loop-other.trail ++ xs) none) ∙ c.loop-other.invariant.trail

pub returns-clause-top : goal.returns-clause-top
returns-clause-top c =
    let none = round_end c.args.rows.now c.args.node c.loop-other.other c.loop-other-test.false in
    omega (arith, ap length none, c.loop-other.invariant.top, c.requires.room)
