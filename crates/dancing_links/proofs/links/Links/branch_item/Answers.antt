use Rattle.std.proofs.Common.{◌≡◌, ℕ, List, take, ap, ◌∙◌, vec_capacity, subst, IfSome}
use Rattle.cover_problem.specs.Branching.{branch_item, IsOpen}
use Rattle.cover_problem.specs.Problem.{IsProblem}
use Rattle.choices.specs.Choices.{Choices}
use Rattle.dancing_links.specs.Keys.{least_from}
use Rattle.dancing_links.proofs.Branching.{least_told, told_item, told_open}
use Rattle.cover_problem.proofs.Fronts.{open_named}
use Rattle.dancing_links.proofs.links.Links.branch_item.Goals as goal

pub returns-clause-item : goal.returns-clause-item
returns-clause-item c =
    let p = c.self.inside.problem.now in
    let os = c.self.inside.chosen.items in
    let keys = c.self.inside.board.keys in
    let least : c.least_of-least.result ≡ least_from 4294967295 (take p.primary keys) = c.least_of-least.ensures ∙ ap (λ (n : ℕ). least_from 4294967295 (take n c.keys.result.now)) c.primary-primary.ensures.count ∙ ap (λ (ks : List ℕ). least_from 4294967295 (take p.primary ks)) c.keys.ensures in
    let told = least_told p c.self.inside.layout os c.self.inside.entries.items c.self.inside.board.links keys (vec_capacity c.self.inside.chosen) c.least_of-least.result c.self.invariant.0 least in
    told_item p os keys c.least_of-least.result c.item_in.result told c.item_in.ensures ∙ ap (λ (v : Choices). branch_item v.problem v.chosen) c.self.view_is

pub returns-clause-uncovered : goal.returns-clause-uncovered
returns-clause-uncovered c =
    let p = c.self.inside.problem.now in
    let os = c.self.inside.chosen.items in
    let keys = c.self.inside.board.keys in
    let least : c.least_of-least.result ≡ least_from 4294967295 (take p.primary keys) = c.least_of-least.ensures ∙ ap (λ (n : ℕ). least_from 4294967295 (take n c.keys.result.now)) c.primary-primary.ensures.count ∙ ap (λ (ks : List ℕ). least_from 4294967295 (take p.primary ks)) c.keys.ensures in
    let told = least_told p c.self.inside.layout os c.self.inside.entries.items c.self.inside.board.links keys (vec_capacity c.self.inside.chosen) c.least_of-least.result c.self.invariant.0 least in
    let Q : Choices → Type 0 = λ v. IfSome c.item_in.result (IsOpen v.problem v.chosen) in
    subst Q c.self.view_is (told_open p os keys c.least_of-least.result c.item_in.result told c.item_in.ensures)

pub returns-clause-named : goal.returns-clause-named
returns-clause-named c = open_named c.args.self.now.problem c.args.self.now.chosen c.item_in.result (subst (λ (v : Choices). IsProblem v.problem) c.self.view_is c.self.invariant.0.is_problem) (returns-clause-uncovered c)
