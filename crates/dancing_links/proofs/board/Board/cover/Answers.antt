use Rattle.std.proofs.Common.{◌++◌, ℕ, List, arith, ap, refl, sym, subst, ◌∙◌, drop, length, take}
use Rattle.dancing_links.specs.Board.{Board, board, CoversItem}
use Rattle.dancing_links.specs.declared.link.Link.{Link}
use Rattle.dancing_links.specs.Covering.{Covers}
use Rattle.dancing_links.specs.Keys.{KeysCovered}
use Rattle.dancing_links.specs.Trail.{Trails}
use Rattle.dancing_links.proofs.Chosen.{put_back}
use Rattle.dancing_links.proofs.board.Board.cover.Goals as goal

pub returns-clause-covers : goal.returns-clause-covers
returns-clause-covers c =
    let cs = c.args.layout.now in
    let i : ℕ = c.args.item in
    let s = c.self.inside in
    let u = c.cover-self-inside in
    let links = put_back u.new.links (drop (length u.new.links) s.links.items) s.links.len (omega (arith, u.auto.links, c.deref_mut.ensures.len, s.links.ok.0)) in
    let keys = put_back u.new.keys (drop (length u.new.keys) s.keys.items) s.keys.len (omega (arith, u.auto.keys, c.deref_mut-2.ensures.len, s.keys.ok.0)) in
    let trail = put_back u.new.trail (drop (length u.new.trail) s.trail.items) s.trail.len (omega (arith, u.auto.trail, c.deref_mut-3.ensures.len, s.trail.ok.0)) in
    let L : List Link → Type 0 = λ m. Covers cs m i 0 u.new.links in
    let K : List Link → Type 0 = λ m. KeysCovered cs m i 0 c.deref_mut-2.result.now u.new.keys in
    let J : List ℕ → Type 0 = λ k. KeysCovered cs s.links.items i 0 k u.new.keys in
    let T : List Link → Type 0 = λ m. Trails cs m i 0 (take s.out c.deref_mut-3.result.now) (take u.result u.new.trail) in
    let S : List ℕ → Type 0 = λ t. Trails cs s.links.items i 0 (take s.out t) (take u.result u.new.trail) in
    let L' : List Link → Type 0 = λ m. Covers cs s.links.items i 0 m in
    let J' : List ℕ → Type 0 = λ k. KeysCovered cs s.links.items i 0 s.keys.items k in
    let S' : List ℕ → Type 0 = λ t. Trails cs s.links.items i 0 (take s.out s.trail.items) (take u.result t) in
    let links_now : List Link = take s.links.len (u.new.links ++ drop (length u.new.links) s.links.items) in
    let keys_now : List ℕ = take s.keys.len (u.new.keys ++ drop (length u.new.keys) s.keys.items) in
    let trail_now : List ℕ = take s.trail.len (u.new.trail ++ drop (length u.new.trail) s.trail.items) in
    let Q : Board → Type 0 = λ old. CoversItem cs i 0 old (board links_now keys_now s.commits.items (take u.result trail_now) (length trail_now)) in
    subst Q c.self.view_is (record {
      links = subst L' (sym links) (subst L c.deref_mut.ensures.value u.ensures.links);
      keys = subst J' (sym keys) (subst J c.deref_mut-2.ensures.value (subst K c.deref_mut.ensures.value u.ensures.keys));
      count = ap length keys ∙ u.auto.keys ∙ ap length c.deref_mut-2.ensures.value;
      commits = refl;
      trail = subst S' (sym trail) (subst S c.deref_mut-3.ensures.value (subst T c.deref_mut.ensures.value u.ensures.trail));
      room = ap length trail ∙ u.auto.trail ∙ ap length c.deref_mut-3.ensures.value;
    })
