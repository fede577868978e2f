use Rattle.std.proofs.Common.{List, ℕ, ◌∷◌, [], sym, ◌∙◌, subst, arith, ap, length}
use Rattle.dancing_links.specs.Committing.{IsCommits, commit, committed, covering}
use Rattle.dancing_links.specs.Keys.{KeysCoveredAll}
use Rattle.dancing_links.specs.Covering.{others, CoversAll}
use Rattle.dancing_links.proofs.Choose.{covers_both, keys_both, trails_both}
use Rattle.dancing_links.specs.Trail.{HasRoomAll, TrailsAll}
use Rattle.dancing_links.proofs.Trail.{room_first, room_step}
use Rattle.dancing_links.proofs.Commits.{commit_kept, covering_one}
use Rattle.dancing_links.proofs.commit.cover_from.Goals as goal

pub returns-clause-covers : goal.returns-clause-covers
returns-clause-covers c =
    let cs = c.args.layout.now in
    let node = c.args.node in
    let old = c.args.board.now in
    let mid = c.commit.new.board in
    let new = c.cover_others.new.board in
    let first = c.commit.ensures.covers in
    let rest = c.cover_others.ensures.covers in
    let t = c.heads-heads.ensures.table in
    let one = sym (covering_one cs old.commits node (others cs node)) in
    let head : List ℕ = covering c.args.layout.now c.args.board.now.commits (c.args.node ∷ []) in
    let tail : List ℕ = covering c.args.layout.now (commit c.args.layout.now c.args.board.now.commits c.args.node) (others c.args.layout.now c.args.node) in
    let P : List ℕ → Type 0 = λ commits. CoversAll cs mid.links (covering cs commits (others cs node)) new.links in
    let Q : List ℕ → Type 0 = λ nodes. CoversAll cs old.links nodes new.links in
    let R : List ℕ → Type 0 = λ commits. KeysCoveredAll cs mid.links (covering cs commits (others cs node)) mid.keys new.keys in
    let S : List ℕ → Type 0 = λ nodes. KeysCoveredAll cs old.links nodes old.keys new.keys in
    let T : List ℕ → Type 0 = λ commits. TrailsAll cs mid.links (covering cs commits (others cs node)) mid.trail new.trail in
    let U : List ℕ → Type 0 = λ nodes. TrailsAll cs old.links nodes old.trail new.trail in
    record {
      links = subst Q one (covers_both cs old.links mid.links new.links head tail t first.links (subst P first.commits rest.links));
      keys = subst S one (keys_both cs old.links mid.links head tail old.keys mid.keys new.keys t first.links first.keys (subst R first.commits rest.keys));
      count = rest.count ∙ first.count;
      commits = rest.commits ∙ ap (λ (held : List ℕ). committed cs held (others cs node)) first.commits;
      trail = subst U one (trails_both cs old.links mid.links head tail old.trail mid.trail new.trail t first.links first.trail (subst T first.commits rest.trail));
      room = rest.room ∙ first.room;
    }

pub commit-requires-clause-room : goal.commit-requires-clause-room
commit-requires-clause-room c =
    let old = c.args.board.now in
    room_first c.args.layout.now old.links old.commits (others c.args.layout.now c.args.node) old.trail c.args.node old.room c.requires.room

pub cover_others-requires-clause-room : goal.cover_others-requires-clause-room
cover_others-requires-clause-room c =
    let cs = c.args.layout.now in
    let node = c.args.node in
    let old = c.args.board.now in
    let mid = c.commit.new.board in
    let first = c.commit.ensures.covers in
    let S : ℕ → Type 0 = λ room. HasRoomAll cs mid.links (covering cs (commit cs old.commits node) (others cs node)) mid.trail room in
    let T : List ℕ → Type 0 = λ commits. HasRoomAll cs mid.links (covering cs commits (others cs node)) mid.trail mid.room in
    subst T (sym first.commits) (subst S (sym first.room) (room_step cs old.links mid.links old.commits (others cs node) old.trail mid.trail node old.room c.heads-heads.ensures.table first.links first.trail c.requires.room))

pub returns-clause-middle : goal.returns-clause-middle
returns-clause-middle c = λ out s are. c.out-middle.ensures ∙ ap length (c.commit.ensures.covers.trail out s are)

pub cover_others-requires-clause-lawful : goal.cover_others-requires-clause-lawful
cover_others-requires-clause-lawful c =
    let P : List ℕ → Type 0 = λ held. IsCommits c.args.layout.now held in
    record { linked = c.commit.ensures.linked; keys = omega (arith, c.commit.ensures.covers.count, c.requires.lawful.keys); commits = subst P (sym c.commit.ensures.covers.commits) (commit_kept c.args.layout.now c.args.board.now.commits c.args.node c.requires.lawful.commits) }
