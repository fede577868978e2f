-- Options that there aren't clash with none.
use Rattle.std.proofs.Common.{◌≡◌, ℕ, ◌≤◌, [], length, get_or, ◌==◌, false, not, ◌&&◌, ap}
use Rattle.std.proofs.lemmas.List.{get_or_past}
use Rattle.std.proofs.lemmas.List.Folds.{list_any_none}
use Rattle.std.specs.List.{list_any}
use Rattle.cover_problem.specs.Prefix.{agree, clash}
use Rattle.cover_problem.specs.Problem.{Problem, items_of, names_item}

pub first_has_no_clash : (p : Problem) (o q : ℕ) → length p.options ≤ o → clash p o q ≡ false
first_has_no_clash p o q past = ap (list_any (λ item. names_item p q item && not (agree p o q item))) (get_or_past p.options o [] past)

pub second_has_no_clash : (p : Problem) (o q : ℕ) → length p.options ≤ q → clash p o q ≡ false
second_has_no_clash p o q past =
    list_any_none (λ item. names_item p q item && not (agree p o q item)) (items_of p o)
    (λ k d inside. ap (λ items. list_any (λ i. i == get_or (items_of p o) k d) items && not (agree p o q (get_or (items_of p o) k d))) (get_or_past p.options q [] past))
