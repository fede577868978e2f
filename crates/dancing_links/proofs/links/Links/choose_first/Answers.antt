use Rattle.std.proofs.Common.{◌≡◌, ℕ, ◌<◌, ◌∙◌, [], false, length, slice_get, vec_capacity, ap, arith, refl, subst, sym}
use Rattle.cover_problem.specs.Onward.{live_options_from}
use Rattle.cover_problem.specs.Prefix.{is_covered}
use Rattle.cover_problem.proofs.Fronts.{room_left}
use Rattle.choices.specs.Choices.{Choices, IsChild}
use Rattle.dancing_links.specs.Choices.{commits_of}
use Rattle.dancing_links.specs.Linking.{down_of}
use Rattle.dancing_links.proofs.Chosen.{same_length, held_kept, commits_pushed, links_push, same_links_of, view_push}
use Rattle.dancing_links.proofs.Next.{IsBelow, IsChoice, below_head, choice_of}
use Rattle.dancing_links.proofs.Trailed.{IsReady, marks_length, middle_pushed, ready_of, room_push, trail_more, trail_pushed}
use Rattle.dancing_links.proofs.links.Links.choose_first.Goals as goal
use Rattle.dancing_links.proofs.links.Links.choose_first.Goals.{After-links, After-option_at-option}

free_of : (c : After-links) → is_covered c.self.inside.problem.now c.self.inside.chosen.items c.args.item ≡ false
free_of c = ap (λ (v : Choices). is_covered v.problem v.chosen c.args.item) c.self.view_is ∙ c.requires.uncovered

-- what is below the head of the item
below_of : (c : After-links) → IsBelow c.self.inside.problem.now c.self.inside.layout c.self.inside.chosen.items c.args.item 0 (down_of c.links.result.now c.args.item)
below_of c =
    let s = c.self.inside in
    let inside : c.args.item < length c.self.inside.problem.now.names = omega (arith, c.requires.item, ap (λ (v : Choices). length v.problem.names) c.self.view_is) in
    below_head s.problem.now s.layout s.chosen.items s.entries.items s.board.links s.board.keys (vec_capacity s.chosen) c.args.item c.links.result.now c.self.invariant.0 inside (free_of c) c.links.ensures

choice_at : (c : After-option_at-option) → IsChoice c.self.inside.problem.now c.self.inside.layout c.self.inside.chosen.items c.args.item 0 (down_of c.links.result.now c.args.item) c.option_at-option.result
choice_at c = choice_of _ _ _ _ _ _ _ c.tails.ensures.table (below_of (goal.at.After-option_at-option c).After-links) (omega (arith, c.if-node-tails.false, c.tails.ensures.tails)) c.option_at-option.ensures.option

ready_at : (c : After-option_at-option) → IsReady c.self.inside.layout c.self.inside.entries.items c.self.inside.board.links (down_of c.links.result.now c.args.item)
ready_at c =
    let s = c.self.inside in
    let choice = choice_at c in
    ready_of s.problem.now s.layout s.chosen.items s.entries.items s.board.links s.board.keys (vec_capacity s.chosen) c.option_at-option.result _ c.self.invariant.0 choice.child.inside choice.child.live (ap (is_covered s.problem.now s.chosen.items) choice.column ∙ free_of (goal.at.After-option_at-option c).After-links) choice.node choice.option

pub returns-then-node-tails-clause-first : goal.returns-then-node-tails-clause-first
returns-then-node-tails-clause-first c =
    let below = below_of (goal.at.returns-then-node-tails-clause-first c).After-links in
    sym (below.none (omega (arith, c.if-node-tails.true, c.tails.ensures.tails))) ∙ ap (λ (v : Choices). slice_get (live_options_from v.problem v.chosen c.args.item 0) 0) c.self.view_is

-- ---- where an option is live

pub cover_from-middle-requires-clause-node : goal.cover_from-middle-requires-clause-node
cover_from-middle-requires-clause-node c = (choice_at (goal.at.cover_from-middle-requires-clause-node c).After-option_at-option).node

pub cover_from-middle-requires-clause-lawful : goal.cover_from-middle-requires-clause-lawful
cover_from-middle-requires-clause-lawful c =
    let s = c.self.inside in
    let is = c.self.invariant.0 in
    record { linked = is.linked; keys = is.history.keyed.columns; commits = held_kept s.problem.now s.layout s.chosen.items s.entries.items s.board.links s.board.keys (vec_capacity s.chosen) s.board.commits is c.self.invariant.2 }

pub cover_from-middle-requires-clause-room : goal.cover_from-middle-requires-clause-room
cover_from-middle-requires-clause-room c =
    let s = c.self.inside in
    let i = c.self.invariant in
    room_push s.layout s.entries.items s.board.links s.board.commits s.board.trail _ s.board.room (ready_at (goal.at.cover_from-middle-requires-clause-room c).After-option_at-option) i.2 i.3.trail_is i.3.enough

pub push_reserved-requires : goal.push_reserved-requires
push_reserved-requires c =
    let s = c.self.inside in
    let i = c.self.invariant in
    let choice = choice_at (goal.at.push_reserved-requires c).After-option_at-option in
    let left = room_left s.problem.now s.chosen.items c.option_at-option.result i.0.is_problem i.0.prefix choice.child.inside choice.child.live in
    let same = same_length s.problem.now s.layout s.chosen.items s.entries.items s.board.links s.board.keys (vec_capacity s.chosen) i.0 in
    omega (arith, left, same, marks_length c.self.inside.layout [] c.self.inside.entries.items, ap length c.self.invariant.3.marks_are, c.self.invariant.3.some, c.self.inside.marks.ok.0)

pub push_reserved-requires-2 : goal.push_reserved-requires-2
push_reserved-requires-2 c =
    let s = c.self.inside in
    let i = c.self.invariant in
    let choice = choice_at (goal.at.push_reserved-requires-2 c).After-option_at-option in
    let left = room_left s.problem.now s.chosen.items c.option_at-option.result i.0.is_problem i.0.prefix choice.child.inside choice.child.live in
    let same = same_length s.problem.now s.layout s.chosen.items s.entries.items s.board.links s.board.keys (vec_capacity s.chosen) i.0 in
    omega (arith, left, same, c.self.invariant.1, c.self.inside.entries.ok.0)

pub push_reserved-requires-3 : goal.push_reserved-requires-3
push_reserved-requires-3 c =
    let s = c.self.inside in
    let i = c.self.invariant in
    let choice = choice_at (goal.at.push_reserved-requires-3 c).After-option_at-option in
    let left = room_left s.problem.now s.chosen.items c.option_at-option.result i.0.is_problem i.0.prefix choice.child.inside choice.child.live in
    omega (arith, left, c.self.invariant.0.enough, c.self.inside.chosen.ok.0)

pub invariant_of-self : goal.invariant_of-self
invariant_of-self c =
    let at = goal.at.invariant_of-self c in
    let p = c.self.inside.problem.now in
    let cs = c.self.inside.layout in
    let os = c.self.inside.chosen.items in
    let es = c.self.inside.entries.items in
    let room = vec_capacity c.self.inside.chosen in
    let i = c.self.invariant in
    let choice = choice_at at.After-option_at-option in
    let ready = ready_at at.After-option_at-option in
    let free = ap (is_covered p os) choice.column ∙ free_of at.After-links in
    let old = c.self.inside.board in
    let new = c.cover_from-middle.new.board in
    let covers = c.cover_from-middle.ensures.covers in
    let option = c.option_at-option.result in
    let node : ℕ = down_of c.links.result.now c.args.item in
    let after = links_push p cs os es old.links new.links old.keys new.keys old.commits room option node i.0 i.2 choice.child.inside choice.child.live free choice.node choice.option c.cover_from-middle.ensures.linked covers.links covers.keys in
    let middle = middle_pushed cs es old.links old.commits old.trail node c.cover_from-middle.result ready i.2 i.3.trail_is c.cover_from-middle.ensures.middle in
    let trail = trail_pushed cs es old.links old.commits old.trail new.trail node ready i.2 i.3.trail_is covers.trail in (
      same_links_of _ _ _ _ _ _ _ _ _ _ _ _ c.push_reserved-3.ensures.items c.push_reserved-2.ensures.items refl refl c.push_reserved-3.ensures.capacity after,
      omega (arith, c.self.invariant.1, c.push_reserved-2.ensures.capacity),
      commits_pushed cs es node old.commits new.commits i.2 covers.commits ∙ ap (commits_of cs) (sym c.push_reserved-2.ensures.items),
      trail_more _ _ _ _ _ _ _ _ _ _ _ _ _ _ i.3.enough covers.room i.3.marks_are i.3.some c.push_reserved.ensures.capacity (c.out-start.ensures ∙ ap length i.3.trail_is) middle trail c.push_reserved-2.ensures.items c.push_reserved.ensures.items,
    )

pub returns-clause-first : goal.returns-clause-first
returns-clause-first c = (choice_at (goal.at.returns-clause-first c).After-option_at-option).first ∙ ap (λ (v : Choices). slice_get (live_options_from v.problem v.chosen c.args.item 0) 0) c.self.view_is

pub returns-clause-child : goal.returns-clause-child
returns-clause-child c =
    let P : Choices → Type 0 = λ v. IsChild v.problem v.chosen c.args.item c.option_at-option.result in
    subst P c.self.view_is (choice_at (goal.at.returns-clause-child c).After-option_at-option).child

pub returns-clause-chosen : goal.returns-clause-chosen
returns-clause-chosen c =
    let s = c.self.inside in
    let choice = choice_at (goal.at.returns-clause-chosen c).After-option_at-option in
    view_push c.args.self.now s.problem.now s.layout s.chosen.items s.entries.items c.push_reserved-3.new.self.items c.push_reserved-2.new.self.items c.option_at-option.result _ c.args.item c.self.view_is c.push_reserved-3.ensures.items c.push_reserved-2.ensures.items choice.column
