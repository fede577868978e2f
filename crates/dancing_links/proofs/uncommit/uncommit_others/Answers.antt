use Rattle.std.proofs.Common.{◌≡◌, ◌∷◌, [], List, ℕ, arith, sym, subst}
use Rattle.dancing_links.specs.Keys.{turned}
use Rattle.dancing_links.specs.Committing.{covering}
use Rattle.dancing_links.proofs.Others.{round_start, round_step}
use Rattle.dancing_links.proofs.Around.{IsTakenBack, taken_start, taken_step, taken_end}
use Rattle.dancing_links.proofs.uncommit.uncommit_others.Goals as goal

pub loop-other-init : goal.loop-other-init
loop-other-init c =
    let cs = c.args.layout.now in
    let t = c.right_of-other.ensures.table in
    let start = round_start cs c.args.node c.right_of-other.result t (omega (arith, c.requires.node.0, t.some)) c.requires.node.1 c.right_of-other.ensures.right in
    record {
      round = start.0;
      taken = taken_start cs c.args.node c.right_of-other.result c.args.keys.now c.args.commits.now c.requires.commits start.1;
    }

pub loop-other-smaller : goal.loop-other-smaller
loop-other-smaller c =
    let step = round_step c.args.layout.now c.args.node c.loop-other.other c.right_of-other-in-loop-other.result c.right_of-other.ensures.table c.loop-other.invariant.round c.loop-other-test.true c.right_of-other-in-loop-other.ensures.right in
    omega (arith, step.fewer)

pub loop-other-preserved : goal.loop-other-preserved
loop-other-preserved c =
    let cs = c.args.layout.now in
    let other : ℕ = c.loop-other.other in
    let next : ℕ = c.right_of-other-in-loop-other.result in
    let t = c.right_of-other.ensures.table in
    let was = c.loop-other.invariant in
    let on = round_step cs c.args.node other next t was.round c.loop-other-test.true c.right_of-other-in-loop-other.ensures.right in
    let P : List ℕ → Type 0 = λ commits. c.uncommit.new.keys ≡ turned cs c.loop-other.keys (covering cs commits (other ∷ [])) in
    let step = taken_step cs c.args.node other next c.args.keys.now c.loop-other.keys c.uncommit.new.keys c.args.commits.now c.loop-other.commits t was.round c.loop-other-test.true on (subst P c.uncommit.ensures.commits c.uncommit.ensures.keys) was.taken in
    let Q : List ℕ → Type 0 = λ commits. IsTakenBack cs c.args.node next c.args.keys.now c.uncommit.new.keys c.args.commits.now commits in
    record {
      round = on.round;
      taken = subst Q (sym c.uncommit.ensures.commits) step;
    }

pub returns-clause-keys : goal.returns-clause-keys
returns-clause-keys c = (taken_end c.args.layout.now c.args.node c.loop-other.other c.args.keys.now c.loop-other.keys c.args.commits.now c.loop-other.commits c.loop-other-test.false c.loop-other.invariant.taken).keys

pub returns-clause-commits : goal.returns-clause-commits
returns-clause-commits c = (taken_end c.args.layout.now c.args.node c.loop-other.other c.args.keys.now c.loop-other.keys c.args.commits.now c.loop-other.commits c.loop-other-test.false c.loop-other.invariant.taken).commits
