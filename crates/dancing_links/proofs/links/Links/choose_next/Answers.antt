use Rattle.std.proofs.Common.{ℕ, List, ◌+◌, ◌-◌, ◌==◌, ◌&&◌, ◌∙◌, get_or, length, map, nat_lt, not, vec_capacity, None, Some, ap, arith, refl, subst, sym}
use Rattle.std.proofs.lemmas.Bool.{and_parts, eqb-true, ltb-false, not-true}
use Rattle.dancing_links.specs.declared.link.Link.{Link}
use Rattle.dancing_links.specs.Choices.{commits_of}
use Rattle.dancing_links.specs.Columns.{colour_at, column_of, IsLinked}
use Rattle.dancing_links.specs.Linking.{down_of}
use Rattle.dancing_links.proofs.Chosen.{choices_by, first_of, next_choice, same_links_of, view_push}
use Rattle.dancing_links.proofs.Last.{IsHalfBack, IsLastChoice, IsRetaken, all_back, half_back, half_piece, last_choice, next_chosen, next_frame, own_back, piece_options, retaken, retaken_kept, retaken_room, trail_back}
use Rattle.dancing_links.proofs.Next.{IsBelow, IsChoice, below_covered, below_last, choice_of}
use Rattle.dancing_links.proofs.Trailed.{room_next, trail_more}
use Rattle.dancing_links.proofs.links.Links.choose_next.Goals as goal
use Rattle.dancing_links.proofs.links.Links.choose_next.Goals.{After-links-2, After-option_at-option, After-pop-3, After-recommit, After-uncover_others}

last_of : (c : After-pop-3) → IsLastChoice c.self.inside.problem.now c.self.inside.layout c.pop-3.new.self.items c.pop-2.new.self.items (get_or c.self.inside.chosen.items (c.self.inside.chosen.len - 1) 0) c.index.result.now c.self.inside.board (vec_capacity c.self.inside.chosen) c.index-mark.result.now c.pop.new.self.items c.args.self.now
last_of c =
    let s = c.self.inside in
    let i = c.self.invariant in
    last_choice s.problem.now s.layout c.pop-3.new.self.items c.pop-2.new.self.items s.chosen.items s.entries.items c.index.result.now s.chosen.len s.entries.len s.marks.len c.len.result c.len-2.result
    s.board (vec_capacity s.chosen) _ s.marks.items c.pop.new.self.items c.index-mark.result.now c.args.self.now
    c.self.view_is c.requires i.0 i.2 i.3 (omega (arith, s.chosen.ok.0)) (omega (arith, s.entries.ok.0)) (omega (arith, s.marks.ok.0)) c.len.ensures c.len-2.ensures c.pop-3.ensures.rest c.pop-2.ensures.rest c.pop.ensures.rest c.index.ensures c.index-mark.ensures

-- ---- where no option follows, told while all is covered

pub is_last-requires-clause-linked : goal.is_last-requires-clause-linked
is_last-requires-clause-linked c =
    let P : List Link → Type 0 = λ m. IsLinked c.self.inside.layout m in
    subst P (sym c.links.ensures) (last_of (goal.at.is_last-requires-clause-linked c).After-pop-3).lawful.linked

pub uncover_from-requires-clause-lawful : goal.uncover_from-requires-clause-lawful
uncover_from-requires-clause-lawful c = (last_of (goal.at.uncover_from-requires-clause-lawful c).After-pop-3).lawful

pub uncover_from-requires-clause-start : goal.uncover_from-requires-clause-start
uncover_from-requires-clause-start c = (last_of (goal.at.uncover_from-requires-clause-start c).After-pop-3).first

pub uncover_from-requires-clause-trail : goal.uncover_from-requires-clause-trail
uncover_from-requires-clause-trail c = piece_options _ _ _ _ _ _ _ _ c.index-mark.result.now.start _ _ _ (last_of (goal.at.uncover_from-requires-clause-trail c).After-pop-3)

pub invariant_of-self : goal.invariant_of-self
invariant_of-self c =
    let i = c.self.invariant in
    let u = c.uncover_from in
    let last = last_of (goal.at.invariant_of-self c).After-pop-3 in
    let back = all_back _ _ _ _ _ _ _ u.new.board _ _ _ _ last u.ensures.linked u.ensures.uncovers u.ensures.kept u.ensures.commits in (
      same_links_of _ _ _ _ _ _ _ _ _ _ _ _ refl refl refl refl c.pop-3.ensures.capacity back.links_are,
      omega (arith, c.self.invariant.1, c.pop-2.ensures.capacity),
      back.held,
      trail_back _ _ _ _ _ _ _ _ _ _ back last.cut.front_is i.3.enough i.3.some u.ensures.uncovers.room c.pop.ensures.capacity,
    )

pub returns-then-is_last : goal.returns-then-is_last
returns-then-is_last c =
    let cs = c.self.inside.layout in
    let k : ℕ = c.index.result.now in
    let m = c.self.inside.board.links in
    let last = last_of (goal.at.returns-then-is_last c).After-pop-3 in
    let told = sym (c.is_last.ensures ∙ ap (λ (links : List Link). not (nat_lt (down_of links k) cs.tails) && colour_at cs k == 0) c.links.ensures) ∙ c.if-is_last.true in
    let both = and_parts (not (nat_lt (down_of m k) cs.tails)) (colour_at cs k == 0) told in
    let below = below_covered _ _ _ _ _ _ _ _ _ last.was (eqb-true (colour_at cs k) 0 both.1) in
    let after = choices_by c.self.inside.problem.now c.pop-3.new.self.items (map (column_of cs) c.pop-2.new.self.items) in
    λ before item option old. next_choice after before (column_of cs k) item _ option None after (sym last.view_is ∙ old) (record { next_is = sym (below.none (ltb-false (down_of m k) cs.tails (not-true (nat_lt (down_of m k) cs.tails) both.0))); child = tt; chosen = refl })

-- ---- the others of its option are taken back

pub uncover_others-requires-clause-lawful : goal.uncover_others-requires-clause-lawful
uncover_others-requires-clause-lawful c = (last_of (goal.at.uncover_others-requires-clause-lawful c).After-pop-3).lawful

pub uncover_others-requires-clause-start : goal.uncover_others-requires-clause-start
uncover_others-requires-clause-start c = (last_of (goal.at.uncover_others-requires-clause-start c).After-pop-3).second

pub uncover_others-requires-clause-trail : goal.uncover_others-requires-clause-trail
uncover_others-requires-clause-trail c = piece_options _ _ _ _ _ _ _ _ c.index-mark.result.now.middle _ _ _ (last_of (goal.at.uncover_others-requires-clause-trail c).After-pop-3)

half_of : (c : After-uncover_others) → IsHalfBack c.self.inside.layout c.pop-2.new.self.items c.index.result.now c.uncover_others.new.board c.index-mark.result.now.start
half_of c =
    let u = c.uncover_others.ensures in
    half_back _ _ _ _ _ _ _ _ _ _ _ _ (last_of (goal.at.After-uncover_others c).After-pop-3) u.linked u.uncovers u.kept u.commits

-- what is below its node then
below_of : (c : After-links-2) → IsBelow c.self.inside.problem.now c.self.inside.layout c.pop-3.new.self.items (column_of c.self.inside.layout c.index.result.now) (get_or c.self.inside.chosen.items (c.self.inside.chosen.len - 1) 0 + 1) (down_of c.links-2.result.now c.index.result.now)
below_of c =
    let at = goal.at.After-links-2 c in
    let p = c.self.inside.problem.now in
    let cs = c.self.inside.layout in
    let os = c.pop-3.new.self.items in
    let k : ℕ = c.index.result.now in
    let o : ℕ = get_or c.self.inside.chosen.items (c.self.inside.chosen.len - 1) 0 in
    let P : List Link → Type 0 = λ m. IsBelow p cs os (column_of cs k) (o + 1) (down_of m k) in
    subst P (sym c.links-2.ensures) (below_last _ _ _ _ _ _ _ _ _ (last_of at.After-pop-3).frame (half_of at.After-uncover_others).history)

-- ---- where no option follows then

pub uncover_one-requires-clause-start : goal.uncover_one-requires-clause-start
uncover_one-requires-clause-start c = (half_of (goal.at.uncover_one-requires-clause-start c).After-uncover_others).half.inside

pub uncover_one-requires-clause-trail : goal.uncover_one-requires-clause-trail
uncover_one-requires-clause-trail c =
    let at = goal.at.uncover_one-requires-clause-trail c in
    half_piece _ _ _ _ _ _ _ _ _ _ _ _ (last_of at.After-pop-3) (half_of at.After-uncover_others)

pub invariant_of-self-then-next-tails : goal.invariant_of-self-then-next-tails
invariant_of-self-then-next-tails c =
    let at = goal.at.invariant_of-self-then-next-tails c in
    let i = c.self.invariant in
    let u = c.uncover_others.ensures in
    let v = c.uncover_one in
    let last = last_of at.After-pop-3 in
    let back = own_back _ _ _ _ _ _ _ _ v.new.board _ _ _ _ last (half_of at.After-uncover_others) v.ensures.linked v.ensures.uncovers v.ensures.commits in (
      same_links_of _ _ _ _ _ _ _ _ _ _ _ _ refl refl refl refl c.pop-3.ensures.capacity back.links_are,
      omega (arith, c.self.invariant.1, c.pop-2.ensures.capacity),
      back.held,
      trail_back _ _ _ _ _ _ _ _ _ _ back last.cut.front_is i.3.enough i.3.some (v.ensures.uncovers.room ∙ u.uncovers.room) c.pop.ensures.capacity,
    )

pub returns-then-next-tails : goal.returns-then-next-tails
returns-then-next-tails c =
    let at = goal.at.returns-then-next-tails c in
    let cs = c.self.inside.layout in
    let k : ℕ = c.index.result.now in
    let last = last_of at.After-pop-3 in
    let below = below_of at.After-links-2 in
    let after = choices_by c.self.inside.problem.now c.pop-3.new.self.items (map (column_of cs) c.pop-2.new.self.items) in
    λ before item option old. next_choice after before (column_of cs k) item _ option None after (sym last.view_is ∙ old) (record { next_is = sym (below.none (omega (arith, c.if-next-tails.true, c.tails.ensures.tails))); child = tt; chosen = refl })

-- ---- where one follows

choice_at : (c : After-option_at-option) → IsChoice c.self.inside.problem.now c.self.inside.layout c.pop-3.new.self.items (column_of c.self.inside.layout c.index.result.now) (get_or c.self.inside.chosen.items (c.self.inside.chosen.len - 1) 0 + 1) (down_of c.links-2.result.now c.index.result.now) c.option_at-option.result
choice_at c = choice_of _ _ _ _ _ _ _ c.tails.ensures.table (below_of (goal.at.After-option_at-option c).After-links-2) (omega (arith, c.if-next-tails.false, c.tails.ensures.tails)) c.option_at-option.ensures.option

pub recommit-requires-clause-column : goal.recommit-requires-clause-column
recommit-requires-clause-column c = (choice_at (goal.at.recommit-requires-clause-column c).After-option_at-option).column

pub recommit-requires-clause-start : goal.recommit-requires-clause-start
recommit-requires-clause-start c = (half_of (goal.at.recommit-requires-clause-start c).After-uncover_others).half.inside

pub recommit-requires-clause-trail : goal.recommit-requires-clause-trail
recommit-requires-clause-trail c =
    let at = goal.at.recommit-requires-clause-trail c in
    half_piece _ _ _ _ _ _ _ _ _ _ _ _ (last_of at.After-pop-3) (half_of at.After-uncover_others)

pub recommit-requires-clause-room : goal.recommit-requires-clause-room
recommit-requires-clause-room c =
    let at = goal.at.recommit-requires-clause-room c in
    let last = last_of at.After-pop-3 in
    let half = half_of at.After-uncover_others in
    room_next _ _ _ _ _ _ _ _ _ _ _ _ _ last.frame half.history half.half (first_of _ _ _ _ _ _ _ _ last.frame half.held) (omega (arith, c.self.invariant.3.enough, c.uncover_others.ensures.uncovers.room))

retaken_of : (c : After-recommit) → IsRetaken c.self.inside.layout c.pop-2.new.self.items (down_of c.links-2.result.now c.index.result.now) c.recommit.new.board
retaken_of c =
    let at = goal.at.After-recommit c in
    retaken _ _ _ _ _ _ _ _ _ _ _ _ _ _ (last_of at.After-pop-3) (half_of at.After-uncover_others) c.recommit.ensures.recovers

pub cover_others-requires-clause-lawful : goal.cover_others-requires-clause-lawful
cover_others-requires-clause-lawful c =
    let at = goal.at.cover_others-requires-clause-lawful c in
    let kept = retaken_kept _ _ _ _ _ _ _ _ _ _ _ _ _ (last_of at.After-pop-3) (retaken_of at.After-recommit) in
    record { linked = c.recommit.ensures.linked; keys = omega (arith, c.recommit.ensures.count, (half_of at.After-uncover_others).lawful.keys); commits = kept }

pub cover_others-requires-clause-room : goal.cover_others-requires-clause-room
cover_others-requires-clause-room c =
    let at = goal.at.cover_others-requires-clause-room c in
    let frame = next_frame _ _ _ _ _ _ _ _ _ _ _ _ _ _ (last_of at.After-pop-3) (choice_at at.After-option_at-option) in
    retaken_room _ _ _ _ _ _ _ _ frame (retaken_of at.After-recommit) (omega (arith, c.self.invariant.3.enough, c.recommit.ensures.room, c.uncover_others.ensures.uncovers.room))

pub invariant_of-self-2 : goal.invariant_of-self-2
invariant_of-self-2 c =
    let at = goal.at.invariant_of-self-2 c in
    let s = c.self.inside in
    let i = c.self.invariant in
    let v = c.cover_others in
    let last = last_of at.After-pop-3 in
    let again = retaken_of at.After-recommit in
    let frame = next_frame _ _ _ _ _ _ _ _ _ _ _ _ _ _ last (choice_at at.After-option_at-option) in
    let now = next_chosen _ _ _ _ _ _ _ v.new.board _ frame again v.ensures.linked v.ensures.covers in
    let room = v.ensures.covers.room ∙ c.recommit.ensures.room ∙ c.uncover_others.ensures.uncovers.room in (
      same_links_of _ _ _ _ _ _ _ _ _ _ _ _ c.push_reserved-3.ensures.items c.push_reserved-2.ensures.items refl refl (c.push_reserved-3.ensures.capacity ∙ c.pop-3.ensures.capacity) now.links_are,
      omega (arith, c.self.invariant.1, c.pop-2.ensures.capacity, c.push_reserved-2.ensures.capacity),
      now.held ∙ ap (commits_of s.layout) (sym c.push_reserved-2.ensures.items),
      trail_more _ _ _ _ _ _ _ _ _ _ _ _ _ _ i.3.enough room last.cut.front_is i.3.some (c.push_reserved.ensures.capacity ∙ c.pop.ensures.capacity) last.cut.start (c.out-middle.ensures ∙ ap length again.trail_is) now.trail_is c.push_reserved-2.ensures.items c.push_reserved.ensures.items,
    )

pub returns : goal.returns
returns c =
    let at = goal.at.returns c in
    let s = c.self.inside in
    let cs = c.self.inside.layout in
    let k : ℕ = c.index.result.now in
    let last = last_of at.After-pop-3 in
    let choice = choice_at at.After-option_at-option in
    let front = choices_by c.self.inside.problem.now c.pop-3.new.self.items (map (column_of cs) c.pop-2.new.self.items) in
    let after = choices_by c.self.inside.problem.now c.push_reserved-3.new.self.items (map (column_of cs) c.push_reserved-2.new.self.items) in
    let more = view_push front s.problem.now cs _ _ _ _ _ _ (column_of cs k) refl c.push_reserved-3.ensures.items c.push_reserved-2.ensures.items choice.column in
    λ before item option old. next_choice front before (column_of cs k) item _ option (Some c.option_at-option.result) after (sym last.view_is ∙ old) (record { next_is = choice.first; child = choice.child; chosen = more })
