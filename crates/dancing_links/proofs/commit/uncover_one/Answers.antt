use Rattle.std.proofs.Common.{List, ℕ, ◌∷◌, [], ap, drop, ◌∙◌}
use Rattle.dancing_links.specs.Committing.{covering}
use Rattle.dancing_links.specs.Keys.{turned}
use Rattle.dancing_links.proofs.Trail.{uncovers_by, unkeys_by}
use Rattle.dancing_links.proofs.commit.uncover_one.Goals as goal

pub returns-clause-uncovers : goal.returns-clause-uncovers
returns-clause-uncovers c =
    let cs = c.args.layout.now in
    let old = c.args.board.now in
    let new = c.uncommit.new.self in
    let back = c.put_back.ensures.back in
    let off = c.uncommit.ensures.unmarks in
    let nodes : List ℕ = covering c.args.layout.now c.uncommit.new.self.commits (c.args.node ∷ []) in
    let piece : List ℕ = drop c.args.start c.args.board.now.trail in
    record {
      links = uncovers_by cs old.links new.links nodes piece c.heads-heads.ensures.table (off.links ∙ back.links);
      keys = unkeys_by cs old.links old.keys new.keys nodes piece c.heads-heads.ensures.table (off.keys ∙ ap (λ (keys : List ℕ). turned cs keys nodes) back.keys);
      count = off.count ∙ back.count;
      trail = off.trail ∙ back.trail;
      room = off.room ∙ back.room;
    }
