-- Several cliques, one after the other.
use Rattle.std.proofs.Common.{◌≡◌, true, List, [], ◌∷◌, refl, ◌∙◌}
use Rattle.std.proofs.lemmas.Bool.{and_parts}
use Rattle.cover_problem.specs.Prefix.{IsBarren}
use Rattle.cover_problem.specs.Problem.{Problem, IsProblem}
use Rattle.used_items.specs.Covers.{HaveSameCovers}
use Rattle.clash_cliques.specs.Cliques.{is_clique, with_clique, with_cliques, are_cliques}
use Rattle.clash_cliques.specs.declared.clique.Clique.{Clique}
use Rattle.clash_cliques.proofs.Joining.{is_problem, same_covers}

-- covers that are the same twice
pub same_through : (p q r : Problem) → HaveSameCovers p q → HaveSameCovers q r → HaveSameCovers p r
same_through p q r one two = record {
  options = two.options ∙ one.options;
  there = λ chosen cover. two.there chosen (one.there chosen cover);
  back = λ chosen cover. one.back chosen (two.back chosen cover);
}

pub are_problems : (p : Problem) (cs : List Clique) → IsProblem p → are_cliques p cs ≡ true → IsProblem (with_cliques p cs)
are_problems p [] lawful ok = lawful
are_problems p (c ∷ cs) lawful ok =
    let parts = and_parts (is_clique p c) (are_cliques (with_clique p c) cs) ok in
    are_problems (with_clique p c) cs (is_problem p c lawful parts.0) parts.1

pub all_same_covers : (p : Problem) (cs : List Clique) → IsProblem p → are_cliques p cs ≡ true → HaveSameCovers p (with_cliques p cs)
all_same_covers p [] lawful ok = record { options = refl; there = λ chosen cover. cover; back = λ chosen cover. cover }
all_same_covers p (c ∷ cs) lawful ok =
    let parts = and_parts (is_clique p c) (are_cliques (with_clique p c) cs) ok in
    same_through p (with_clique p c) (with_cliques (with_clique p c) cs)
    (same_covers p c lawful parts.0)
    (all_same_covers (with_clique p c) cs (is_problem p c lawful parts.0) parts.1)

-- where one of them has no exact cover, the other has none
pub barren_too : (p q : Problem) → HaveSameCovers p q → IsBarren q [] → IsBarren p []
barren_too p q same barren = λ chosen cover over. barren chosen (same.there chosen cover) refl
