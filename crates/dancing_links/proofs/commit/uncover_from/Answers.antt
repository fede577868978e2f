use Rattle.std.proofs.Common.{List, ℕ, ◌∷◌, [], ◌++◌, drop, sym, ap, ◌∙◌, subst}
use Rattle.dancing_links.specs.Committing.{IsCommits, commit, committed, covering}
use Rattle.dancing_links.specs.Keys.{turned}
use Rattle.dancing_links.specs.Covering.{others, nodes_by}
use Rattle.dancing_links.proofs.Choose.{turned-append}
use Rattle.dancing_links.proofs.Commits.{covering_one, commit_uncommit, uncommit_kept}
use Rattle.dancing_links.proofs.Trail.{uncovers_by, unkeys_by}
use Rattle.dancing_links.proofs.commit.uncover_from.Goals as goal

pub returns-clause-uncovers : goal.returns-clause-uncovers
returns-clause-uncovers c =
    let cs = c.args.layout.now in
    let node = c.args.node in
    let old = c.args.board.now in
    let mid = c.uncommit_others.new.self.commits in
    let new = c.uncommit.new.self in
    let back = c.put_back.ensures.back in
    let more = c.uncommit_others.ensures.unmarks in
    let off = c.uncommit.ensures.unmarks in
    let item = c.heads-heads.ensures.table.option_columns node c.requires.node.0 c.requires.node.1 in
    let again = ap (λ (commits : List ℕ). commit cs commits node) c.uncommit.ensures.commits ∙ commit_uncommit cs mid node item c.uncommit_others.ensures.kept in
    let one = covering_one cs new.commits node (others cs node) ∙ ap (λ (commits : List ℕ). covering cs new.commits (node ∷ []) ++ covering cs commits (others cs node)) again in
    let first : List ℕ = covering c.args.layout.now c.uncommit.new.self.commits (c.args.node ∷ []) in
    let rest : List ℕ = covering c.args.layout.now c.uncommit_others.new.self.commits (others c.args.layout.now c.args.node) in
    let nodes : List ℕ = covering c.args.layout.now c.uncommit.new.self.commits (nodes_by c.args.layout.now c.args.node) in
    let piece : List ℕ = drop c.args.start c.args.board.now.trail in
    let keys = off.keys ∙ ap (λ (keys : List ℕ). turned cs keys first) (more.keys ∙ ap (λ (keys : List ℕ). turned cs keys rest) back.keys) ∙ sym (turned-append cs _ first rest) ∙ ap (turned cs _) (sym one) in
    record {
      links = uncovers_by cs old.links new.links nodes piece c.heads-heads.ensures.table (off.links ∙ more.links ∙ back.links);
      keys = unkeys_by cs old.links old.keys new.keys nodes piece c.heads-heads.ensures.table keys;
      count = off.count ∙ more.count ∙ back.count;
      trail = off.trail ∙ more.trail ∙ back.trail;
      room = off.room ∙ more.room ∙ back.room;
    }

pub returns-clause-kept : goal.returns-clause-kept
returns-clause-kept c =
    let P : List ℕ → Type 0 = λ commits. IsCommits c.args.layout.now commits in
    subst P (sym c.uncommit.ensures.commits) (uncommit_kept c.args.layout.now c.uncommit_others.new.self.commits c.args.node c.uncommit_others.ensures.kept)

pub returns-clause-commits : goal.returns-clause-commits
returns-clause-commits c =
    let cs = c.args.layout.now in
    let node = c.args.node in
    let item = c.heads-heads.ensures.table.option_columns node c.requires.node.0 c.requires.node.1 in
    let back = ap (λ (commits : List ℕ). commit cs commits node) c.uncommit.ensures.commits ∙ commit_uncommit cs c.uncommit_others.new.self.commits node item c.uncommit_others.ensures.kept in
    ap (λ (commits : List ℕ). committed cs commits (others cs node)) back ∙ c.uncommit_others.ensures.commits ∙ c.put_back.ensures.back.commits
