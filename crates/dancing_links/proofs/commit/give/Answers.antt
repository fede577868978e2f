use Rattle.std.proofs.Common.{ℕ, ◌≡◌, ◌==◌, ◌+◌, ◌%◌, get_or, set, arith, rules, ap, sym, subst, ◌∙◌, refl}
use Rattle.std.proofs.lemmas.Bool.{both_ways, eq-eqb, eqb-true}
use Rattle.dancing_links.specs.Board.{Board, CoversItem}
use Rattle.dancing_links.specs.Columns.{column_of, colour_at}
use Rattle.dancing_links.specs.Trail.{HasRoom}
use Rattle.dancing_links.proofs.Commits.{commit_coloured, repeated_none, repeated_some}
use Rattle.dancing_links.proofs.Choose.{new_trails, repeated_trails}
use Rattle.dancing_links.proofs.Trail.{room_item}
use Rattle.dancing_links.proofs.commit.give.Goals as goal

pub purify-requires-clause-room : goal.purify-requires-clause-room
purify-requires-clause-room c =
    let cs = c.args.layout.now in
    let old = c.args.board.now in
    let i : ℕ = column_of c.args.layout.now c.args.node in
    let none = ap (λ j. get_or old.commits j 0) (sym c.item_at-item.ensures.item) ∙ eqb-true (get_or old.commits c.item_at-item.result 0) 0 (sym c.count_commit-is_first.ensures.first ∙ c.if-is_first.true) in
    let P : Board → Type 0 = λ b. HasRoom cs b.links i b.trail b.room in
    subst P (sym c.count_commit-is_first.ensures.counted) (room_item cs old.links old.commits old.trail c.args.node i old.room (repeated_none cs old.commits c.args.node none) refl c.requires.room)

pub returns-then-is_first-clause-covers : goal.returns-then-is_first-clause-covers
returns-then-is_first-clause-covers c =
    let cs = c.args.layout.now in
    let old = c.args.board.now in
    let new = c.purify.new.self in
    let i : ℕ = column_of c.args.layout.now c.args.node in
    let a : ℕ = colour_at c.args.layout.now c.args.node in
    let none = ap (λ j. get_or old.commits j 0) (sym c.item_at-item.ensures.item) ∙ eqb-true (get_or old.commits c.item_at-item.result 0) 0 (sym c.count_commit-is_first.ensures.first ∙ c.if-is_first.true) in
    let P : Board → Type 0 = λ b. CoversItem cs i a b c.purify.new.self in
    let covers = subst P c.count_commit-is_first.ensures.counted c.purify.ensures.covers in
    record {
      links = search rules;
      keys = search rules;
      count = covers.count;
      commits = covers.commits ∙ ap (λ j. set old.commits j ((get_or old.commits j 0 + 1) % 4294967296)) c.item_at-item.ensures.item ∙ sym (commit_coloured cs old.commits c.args.node (λ e. omega (arith, e, c.requires.colour)));
      trail = new_trails cs old.links i a c.args.node old.trail new.trail old.commits (repeated_none cs old.commits c.args.node none) refl refl covers.trail;
      room = covers.room;
    }

pub returns-else-is_first-clause-covers : goal.returns-else-is_first-clause-covers
returns-else-is_first-clause-covers c =
    let cs = c.args.layout.now in
    let old = c.args.board.now in
    let new = c.count_commit-is_first.new.self in
    let e = c.count_commit-is_first.ensures.counted in
    let some : get_or c.args.board.now.commits (column_of c.args.layout.now c.args.node) 0 ≡ 0 → ⊥ = λ zero. both_ways (get_or old.commits c.item_at-item.result 0 == 0) (sym c.count_commit-is_first.ensures.first ∙ c.if-is_first.false) (eq-eqb (get_or old.commits c.item_at-item.result 0) 0 (ap (λ j. get_or old.commits j 0) c.item_at-item.ensures.item ∙ zero)) in
    record {
      links = search rules;
      keys = search rules;
      count = search rules;
      commits = ap (λ (b : Board). b.commits) e ∙ ap (λ j. set old.commits j ((get_or old.commits j 0 + 1) % 4294967296)) c.item_at-item.ensures.item ∙ sym (commit_coloured cs old.commits c.args.node (λ e. omega (arith, e, c.requires.colour)));
      trail = repeated_trails cs old.links c.args.node old.trail new.trail old.commits (repeated_some cs old.commits c.args.node (λ e. omega (arith, e, c.requires.colour)) some) (ap (λ (b : Board). b.trail) e);
      room = ap (λ (b : Board). b.room) e;
    }
