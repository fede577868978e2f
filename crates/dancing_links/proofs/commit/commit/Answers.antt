use Rattle.std.proofs.Common.{rules, sym, ◌∙◌}
use Rattle.dancing_links.specs.Columns.{Columns}
use Rattle.dancing_links.proofs.Commits.{commit_plain, repeated_plain}
use Rattle.dancing_links.proofs.Choose.{new_trails, plain_keys}
use Rattle.dancing_links.proofs.Trail.{room_item}
use Rattle.dancing_links.proofs.commit.commit.Goals as goal

pub returns-then-colour-eq0-clause-covers : goal.returns-then-colour-eq0-clause-covers
returns-then-colour-eq0-clause-covers c =
    let cs : Columns = c.args.layout.now in
    let old = c.args.board.now in
    let new = c.cover.new.self in
    let covers = c.cover.ensures.covers in
    let item = c.item_at.ensures.item in
    let plain = sym c.colour_at-colour.ensures.colour ∙ c.if-colour-eq0.true in
    record {
      links = search rules;
      keys = plain_keys cs old.links c.item_at.result c.args.node old.keys new.keys old.commits plain item covers.keys;
      count = covers.count;
      commits = covers.commits ∙ sym (commit_plain cs old.commits c.args.node plain);
      trail = new_trails cs old.links c.item_at.result 0 c.args.node old.trail new.trail old.commits (repeated_plain cs old.commits c.args.node plain) item (sym plain) covers.trail;
      room = covers.room;
    }

pub cover-requires-clause-room : goal.cover-requires-clause-room
cover-requires-clause-room c =
    let cs : Columns = c.args.layout.now in
    let old = c.args.board.now in
    let plain = sym c.colour_at-colour.ensures.colour ∙ c.if-colour-eq0.true in
    room_item cs old.links old.commits old.trail c.args.node c.item_at.result old.room (repeated_plain cs old.commits c.args.node plain) c.item_at.ensures.item c.requires.room
