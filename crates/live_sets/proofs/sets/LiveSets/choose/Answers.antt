use Rattle.std.proofs.Common.{ℕ, ◌+◌, length, arith, ap, subst, refl, get_or}
use Rattle.choices.specs.Choices.{Choices}
use Rattle.option_sets.specs.Sets.{IsRow}
use Rattle.live_sets.proofs.Choosing.{live_here, mark_leaves}
use Rattle.live_sets.proofs.Marked.{primary_all, primary_some}
use Rattle.live_sets.proofs.Taking.{row_behind}
use Rattle.live_sets.proofs.sets.LiveSets.choose.Goals as goal

pub bounds-primary_items-0 : goal.bounds-primary_items-0
bounds-primary_items-0 c =
    let s = c.self.inside in
    primary_some s.sets.now c.args.option c.primary_items.result.now c.self.invariant.0.is_problem (omega (arith, c.requires.option, ap (λ (v : Choices). length v.problem.options) c.self.view_is)) c.primary_items.ensures

pub row-requires : goal.row-requires
row-requires c =
    let s = c.self.inside in
    let p = s.sets.now in
    let is = c.self.invariant.0.is_problem in
    let some = primary_some s.sets.now c.args.option c.primary_items.result.now is (omega (arith, c.requires.option, ap (λ (v : Choices). length v.problem.options) c.self.view_is)) c.primary_items.ensures in
    let below = primary_all s.sets.now c.args.option c.primary_items.result.now c.self.inside.sets.now.primary c.primary_items.ensures refl 0 0 some in
    omega (arith, below, is.primary)

pub push-requires-clause-untried : goal.push-requires-clause-untried
push-requires-clause-untried c =
    let s = c.self.inside in
    let v : Choices = c.args.self.now in
    let item : ℕ = get_or c.primary_items.result.now 0 0 in
    let live = live_here s.sets.now s.chosen.items s.marks.items s.levels c.args.self.now c.len.result c.live_at-live.result.now c.self.view_is c.self.invariant.0 (omega (arith, s.chosen.ok.0, c.len.ensures)) c.live_at-live.ensures in
    let R : Choices → Type 0 = λ w. IsRow w.problem (get_or c.primary_items.result.now 0 0) c.row.result.now in
    let left = row_behind v.problem v.chosen item c.args.option c.row.result.now c.live_at-live.result.now c.behind-untried.result (subst R c.self.view_is c.row.ensures) live c.behind-untried.ensures in
    mark_leaves v.problem v.chosen item (c.args.option + 1) c.new.result c.behind-untried.result c.new.ensures.item c.new.ensures.untried left
