use Rattle.std.proofs.Common.{ℕ, List, [], ◌∷◌, take, drop, arith, sym, ◌∙◌, subst}
use Rattle.std.proofs.lemmas.List.{take-append-drop}
use Rattle.dancing_links.specs.Committing.{IsCommits, covering}
use Rattle.dancing_links.specs.Trail.{HasRoomAll, TrailsAll}
use Rattle.dancing_links.proofs.Choose.{recovers_by, recovers_plain, swap_room}
use Rattle.dancing_links.proofs.Commits.{uncommit_kept}
use Rattle.dancing_links.proofs.commit.recommit.Goals as goal

pub commit-requires-clause-room : goal.commit-requires-clause-room
commit-requires-clause-room c =
    let cs = c.args.layout.now in
    let old = c.args.board.now in
    let mid = c.uncover_one.new.board in
    let back = c.uncover_one.ensures.uncovers in
    let kept : List ℕ = take c.args.start c.args.board.now.trail in
    let piece : List ℕ = drop c.args.start c.args.board.now.trail in
    let item = c.colour_at.ensures.table.option_columns c.args.last c.requires.last.0 c.requires.last.1 in
    let P : List ℕ → Type 0 = λ trail. HasRoomAll cs mid.links (covering cs mid.commits (c.args.next ∷ [])) trail mid.room in
    let Q : ℕ → Type 0 = λ room. HasRoomAll cs mid.links (covering cs mid.commits (c.args.next ∷ [])) kept room in
    subst P (sym back.trail) (subst Q (sym back.room) (swap_room cs old.commits mid.commits old.links mid.links kept piece c.args.last c.args.next old.room item c.requires.column c.uncover_one.ensures.commits back.links c.requires.room))

pub commit-requires-clause-lawful : goal.commit-requires-clause-lawful
commit-requires-clause-lawful c =
    let P : List ℕ → Type 0 = λ held. IsCommits c.args.layout.now held in
    record { linked = c.uncover_one.ensures.linked; keys = omega (arith, c.uncover_one.ensures.uncovers.count, c.requires.lawful.keys); commits = subst P (sym c.uncover_one.ensures.commits) (uncommit_kept c.args.layout.now c.args.board.now.commits c.args.last c.requires.lawful.commits) }

pub returns-then-colour_at-ne0-clause-recovers : goal.returns-then-colour_at-ne0-clause-recovers
returns-then-colour_at-ne0-clause-recovers c = λ front first.
    let cs = c.args.layout.now in
    let old = c.args.board.now in
    let mid = c.uncover_one.new.board in
    let new = c.commit.new.board in
    let back = c.uncover_one.ensures.uncovers in
    let covers = c.commit.ensures.covers in
    let kept : List ℕ = take c.args.start c.args.board.now.trail in
    let piece : List ℕ = drop c.args.start c.args.board.now.trail in
    let item = c.colour_at.ensures.table.option_columns c.args.last c.requires.last.0 c.requires.last.1 in
    let P : List ℕ → Type 0 = λ trail. TrailsAll cs mid.links (covering cs mid.commits (c.args.next ∷ [])) trail new.trail in
    recovers_by cs front old.commits mid.commits new.commits old.links mid.links new.links old.keys mid.keys new.keys kept piece new.trail c.args.last c.args.next item c.requires.column first c.uncover_one.ensures.commits covers.commits back.links back.keys covers.links covers.keys (subst P back.trail covers.trail)

pub returns-else-colour_at-ne0-2-clause-recovers : goal.returns-else-colour_at-ne0-2-clause-recovers
returns-else-colour_at-ne0-2-clause-recovers c = λ front first.
    let old = c.args.board.now in
    recovers_plain c.args.layout.now front old.commits old.links old.keys _ _ old.trail c.args.last c.args.next c.requires.column (sym c.colour_at.ensures.colour ∙ c.if-colour_at-ne0.false) (sym c.colour_at-else-colour_at-ne0.ensures.colour ∙ c.if-colour_at-ne0-2.false) (sym (take-append-drop c.args.start old.trail)) first
