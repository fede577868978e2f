use Rattle.std.proofs.Common.{◌≡◌, ℕ, ◌-◌, ◌<◌, ◌∙◌, get_or, length, map, vec_capacity, ap, arith, refl, sym}
use Rattle.std.proofs.lemmas.List.{get_or_default}
use Rattle.choices.specs.Choices.{Choices, with_child}
use Rattle.dancing_links.specs.Columns.{column_of}
use Rattle.dancing_links.proofs.Chosen.{choices_by, same_links_of}
use Rattle.dancing_links.proofs.Last.{IsLastChoice, all_back, last_choice, piece_options, trail_back}
use Rattle.dancing_links.proofs.links.Links.undo.Goals as goal
use Rattle.dancing_links.proofs.links.Links.undo.Goals.{After-pop-3}

last_of : (c : After-pop-3) → IsLastChoice c.self.inside.problem.now c.self.inside.layout c.pop-3.new.self.items c.pop-2.new.self.items (get_or c.self.inside.chosen.items (c.self.inside.chosen.len - 1) 0) c.index.result.now c.self.inside.board (vec_capacity c.self.inside.chosen) c.index-mark.result.now c.pop.new.self.items c.args.self.now
last_of c =
    let s = c.self.inside in
    let i = c.self.invariant in
    last_choice s.problem.now s.layout c.pop-3.new.self.items c.pop-2.new.self.items s.chosen.items s.entries.items c.index.result.now s.chosen.len s.entries.len s.marks.len c.len-2.result c.len-3.result
    s.board (vec_capacity s.chosen) _ s.marks.items c.pop.new.self.items c.index-mark.result.now c.args.self.now
    c.self.view_is c.requires i.0 i.2 i.3 (omega (arith, s.chosen.ok.0)) (omega (arith, s.entries.ok.0)) (omega (arith, s.marks.ok.0)) c.len-2.ensures c.len-3.ensures c.pop-3.ensures.rest c.pop-2.ensures.rest c.pop.ensures.rest c.index.ensures c.index-mark.ensures

pub uncover_from-requires-clause-lawful : goal.uncover_from-requires-clause-lawful
uncover_from-requires-clause-lawful c = (last_of (goal.at.uncover_from-requires-clause-lawful c).After-pop-3).lawful

pub uncover_from-requires-clause-node : goal.uncover_from-requires-clause-node
uncover_from-requires-clause-node c = (last_of (goal.at.uncover_from-requires-clause-node c).After-pop-3).node

pub uncover_from-requires-clause-start : goal.uncover_from-requires-clause-start
uncover_from-requires-clause-start c = (last_of (goal.at.uncover_from-requires-clause-start c).After-pop-3).first

pub uncover_from-requires-clause-trail : goal.uncover_from-requires-clause-trail
uncover_from-requires-clause-trail c = piece_options _ _ _ _ _ _ _ _ c.index-mark.result.now.start _ _ _ (last_of (goal.at.uncover_from-requires-clause-trail c).After-pop-3)

pub invariant_of-self : goal.invariant_of-self
invariant_of-self c =
    let i = c.self.invariant in
    let u = c.uncover_from in
    let last = last_of (goal.at.invariant_of-self c).After-pop-3 in
    let back = all_back _ _ _ _ _ _ _ u.new.board _ _ _ _ last u.ensures.linked u.ensures.uncovers u.ensures.kept u.ensures.commits in (
      same_links_of _ _ _ _ _ _ _ _ _ _ _ _ refl refl refl refl c.pop-3.ensures.capacity back.links_are,
      omega (arith, c.self.invariant.1, c.pop-2.ensures.capacity),
      back.held,
      trail_back _ _ _ _ _ _ _ _ _ _ back last.cut.front_is i.3.enough i.3.some u.ensures.uncovers.room c.pop.ensures.capacity,
    )

pub returns : goal.returns
returns c =
    let s = c.self.inside in
    let cs = c.self.inside.layout in
    let k : ℕ = c.index.result.now in
    let o : ℕ = c.index-option.result.now in
    let last = last_of (goal.at.returns c).After-pop-3 in
    let some : 0 < length c.self.inside.chosen.items = omega (arith, c.requires, ap (λ (v : Choices). length v.chosen) c.self.view_is) in
    let place : c.len.result - 1 ≡ c.self.inside.chosen.len - 1 = omega (arith, c.len.ensures) in
    let read : get_or c.self.inside.chosen.items (c.self.inside.chosen.len - 1) 0 ≡ c.index-option.result.now = sym (c.index-option.ensures ∙ get_or_default s.chosen.items (c.len.result - 1) o 0 (omega (arith, some, c.len.ensures, c.self.inside.chosen.ok.0)) ∙ ap (λ (j : ℕ). get_or s.chosen.items j 0) place) in
    (column_of cs k, last.view_is ∙ ap (λ (n : ℕ). with_child (choices_by s.problem.now c.pop-3.new.self.items (map (column_of cs) c.pop-2.new.self.items)) (column_of cs k) n) read)
