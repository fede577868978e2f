use Rattle.std.proofs.Common.{ap, ◌∙◌, vec_capacity, subst, slice_get, IfSome}
use Rattle.cover_problem.specs.Branching.{IsOpen}
use Rattle.cover_problem.specs.Onward.{open_items_from}
use Rattle.cover_problem.specs.Problem.{IsProblem}
use Rattle.choices.specs.Choices.{Choices}
use Rattle.dancing_links.proofs.Views.{first_open}
use Rattle.cover_problem.proofs.Fronts.{open_named}
use Rattle.dancing_links.proofs.links.Links.first_item.Goals as goal

pub returns-clause-first : goal.returns-clause-first
returns-clause-first c =
    let found = first_open c.self.inside.problem.now c.self.inside.layout c.self.inside.chosen.items c.self.inside.entries.items c.self.inside.board.links c.self.inside.board.keys c.keys.result.now (vec_capacity c.self.inside.chosen) 0 c.primary.result c.first_unmarked.result c.self.invariant.0 c.keys.ensures c.primary.ensures.count c.first_unmarked.ensures in
    found.first ∙ ap (λ (v : Choices). slice_get (open_items_from v.problem v.chosen 0) 0) c.self.view_is

pub returns-clause-uncovered : goal.returns-clause-uncovered
returns-clause-uncovered c =
    let found = first_open c.self.inside.problem.now c.self.inside.layout c.self.inside.chosen.items c.self.inside.entries.items c.self.inside.board.links c.self.inside.board.keys c.keys.result.now (vec_capacity c.self.inside.chosen) 0 c.primary.result c.first_unmarked.result c.self.invariant.0 c.keys.ensures c.primary.ensures.count c.first_unmarked.ensures in
    let Q : Choices → Type 0 = λ v. IfSome c.first_unmarked.result (IsOpen v.problem v.chosen) in
    subst Q c.self.view_is found.uncovered

pub returns-clause-item : goal.returns-clause-item
returns-clause-item c = open_named c.args.self.now.problem c.args.self.now.chosen c.first_unmarked.result (subst (λ (v : Choices). IsProblem v.problem) c.self.view_is c.self.invariant.0.is_problem) (returns-clause-uncovered c)
