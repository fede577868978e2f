use Rattle.std.proofs.Common.{◌≡◌, arith, ap, ◌∙◌, subst, length, get_or}
use Rattle.std.proofs.lemmas.List.{get_or_default}
use Rattle.cover_problem.specs.Branching.{branch_item}
use Rattle.cover_problem.specs.Problem.{IsProblem}
use Rattle.choices.specs.Choices.{Choices}
use Rattle.cover_problem.proofs.Fronts.{open_named}
use Rattle.live_sets.specs.Counting.{item_of}
use Rattle.live_sets.proofs.Choosing.{branch_here, least_inside, branch_open}
use Rattle.live_sets.proofs.sets.LiveSets.branch_item.Goals as goal

pub returns-clause-item : goal.returns-clause-item
returns-clause-item c =
    let s = c.self.inside in
    let here : c.len.result ≡ length s.chosen.items = omega (arith, s.chosen.ok.0, c.len.ensures) in
    let inside = least_inside s.sets.now s.chosen.items s.marks.items s.levels c.len.result c.self.invariant.0 here in
    let key : c.index.result.now ≡ get_or s.levels.leasts.items c.len.result 0 = c.index.ensures ∙ get_or_default s.levels.leasts.items c.len.result c.index.result.now 0 inside in
    c.item_in.ensures ∙ ap item_of key ∙ branch_here s.sets.now s.chosen.items s.marks.items s.levels c.len.result c.self.invariant.0 here
    ∙ ap (λ (v : Choices). branch_item v.problem v.chosen) c.self.view_is

pub returns-clause-uncovered : goal.returns-clause-uncovered
returns-clause-uncovered c = branch_open c.args.self.now.problem c.args.self.now.chosen c.item_in.result (returns-clause-item c)

pub returns-clause-named : goal.returns-clause-named
returns-clause-named c = open_named c.args.self.now.problem c.args.self.now.chosen c.item_in.result (subst (λ (v : Choices). IsProblem v.problem) c.self.view_is c.self.invariant.0.is_problem) (returns-clause-uncovered c)
