use Rattle.std.proofs.Common.{List, ℕ, refl, arith, sym, ◌∙◌, subst}
use Rattle.dancing_links.specs.Board.{HasRoomFor}
use Rattle.dancing_links.specs.Columns.{place_at}
use Rattle.dancing_links.specs.Committing.{IsCommits, commit, covering}
use Rattle.dancing_links.specs.Trail.{HasRoomAll}
use Rattle.dancing_links.proofs.Trail.{room_first, room_step}
use Rattle.dancing_links.specs.Covering.{others}
use Rattle.dancing_links.proofs.Choose.{IsLeft, left_start, left_step, left_links, left_keys, left_trails, left_commits}
use Rattle.dancing_links.proofs.Commits.{commit_kept}
use Rattle.dancing_links.proofs.Others.{to_come, round_start, round_step, round_end}
use Rattle.dancing_links.proofs.commit.cover_others.Goals as goal

pub loop-other-init : goal.loop-other-init
loop-other-init c =
    let cs = c.args.layout.now in
    let old = c.args.board.now in
    let t = c.right_of-other.ensures.table in
    let start = round_start cs c.args.node c.right_of-other.result t (omega (arith, c.requires.node.0, t.some)) c.requires.node.1 c.right_of-other.ensures.right in
    let P : List ℕ → Type 0 = λ nodes. IsLeft cs old.links old.links (others cs c.args.node) nodes old.keys old.keys old.trail old.trail old.commits old.commits in
    let R : List ℕ → Type 0 = λ nodes. HasRoomFor cs nodes old in
    record {
      linked = c.requires.lawful.linked;
      kept = c.requires.lawful.commits;
      count = refl;
      round = start.0;
      left = subst P (sym start.1) (left_start cs old.links (others cs c.args.node) old.keys old.trail old.commits);
      room_for = subst R (sym start.1) c.requires.room;
      room = refl;
    }

pub loop-other-smaller : goal.loop-other-smaller
loop-other-smaller c =
    let step = round_step c.args.layout.now c.args.node c.loop-other.other c.right_of-other-in-loop-other.result c.right_of-other.ensures.table c.loop-other.invariant.round c.loop-other-test.true c.right_of-other-in-loop-other.ensures.right in
    omega (arith, step.fewer)

pub loop-other-preserved : goal.loop-other-preserved
loop-other-preserved c =
    let cs = c.args.layout.now in
    let all = others cs c.args.node in
    let old = c.args.board.now in
    let now = c.loop-other.board in
    let new = c.commit.new.board in
    let covers = c.commit.ensures.covers in
    let other : ℕ = c.loop-other.other in
    let next : ℕ = c.right_of-other-in-loop-other.result in
    let t = c.right_of-other.ensures.table in
    let on = round_step cs c.args.node other next t c.loop-other.invariant.round c.loop-other-test.true c.right_of-other-in-loop-other.ensures.right in
    let left : List ℕ = to_come cs c.args.node next in
    let P : List ℕ → Type 0 = λ nodes. IsLeft cs old.links now.links all nodes old.keys now.keys old.trail now.trail old.commits now.commits in
    let step = left_step cs old.links now.links new.links all left old.keys now.keys new.keys old.trail now.trail new.trail old.commits now.commits other t covers.links covers.keys covers.trail (subst P on.come c.loop-other.invariant.left) in
    let Q : List ℕ → Type 0 = λ commits. IsLeft cs old.links new.links all left old.keys new.keys old.trail new.trail old.commits commits in
    let R : List ℕ → Type 0 = λ commits. IsCommits cs commits in
    let S : ℕ → Type 0 = λ room. HasRoomAll cs new.links (covering cs (commit cs now.commits other) left) new.trail room in
    let T : List ℕ → Type 0 = λ commits. HasRoomAll cs new.links (covering cs commits left) new.trail new.room in
    let U : List ℕ → Type 0 = λ nodes. HasRoomFor cs nodes now in
    record {
      linked = c.commit.ensures.linked;
      kept = subst R (sym covers.commits) (commit_kept cs now.commits other c.loop-other.invariant.kept);
      count = covers.count ∙ c.loop-other.invariant.count;
      round = on.round;
      left = subst Q (sym covers.commits) step;
      room_for = subst T (sym covers.commits) (subst S (sym covers.room) (room_step cs now.links new.links now.commits left now.trail new.trail other now.room t covers.links covers.trail (subst U on.come c.loop-other.invariant.room_for)));
      room = covers.room ∙ c.loop-other.invariant.room;
    }

pub returns-clause-covers : goal.returns-clause-covers
returns-clause-covers c =
    let cs = c.args.layout.now in
    let all = others cs c.args.node in
    let old = c.args.board.now in
    let new = c.loop-other.board in
    let left = c.loop-other.invariant.left in
    let none = round_end cs c.args.node c.loop-other.other c.loop-other-test.false in
    record {
      links = left_links cs old.links new.links all _ old.keys new.keys old.trail new.trail old.commits new.commits none left;
      keys = left_keys cs old.links new.links all _ old.keys new.keys old.trail new.trail old.commits new.commits none left;
      count = c.loop-other.invariant.count;
      commits = left_commits cs old.links new.links all _ old.keys new.keys old.trail new.trail old.commits new.commits none left;
      trail = left_trails cs old.links new.links all _ old.keys new.keys old.trail new.trail old.commits new.commits none left;
      room = c.loop-other.invariant.room;
    }

pub commit-requires-clause-room : goal.commit-requires-clause-room
commit-requires-clause-room c =
    let cs = c.args.layout.now in
    let now = c.loop-other.board in
    let other : ℕ = c.loop-other.other in
    let next : ℕ = (place_at cs c.loop-other.other).right in
    let on = round_step cs c.args.node other next c.right_of-other.ensures.table c.loop-other.invariant.round c.loop-other-test.true refl in
    let U : List ℕ → Type 0 = λ nodes. HasRoomFor cs nodes now in
    room_first cs now.links now.commits (to_come cs c.args.node next) now.trail other now.room (subst U on.come c.loop-other.invariant.room_for)

pub commit-requires-clause-lawful : goal.commit-requires-clause-lawful
commit-requires-clause-lawful c = record { linked = c.loop-other.invariant.linked; keys = omega (arith, c.loop-other.invariant.count, c.requires.lawful.keys); commits = c.loop-other.invariant.kept }
