-- Cliques: options of which each two clash. An exact cover has one of them at most, so a further secondary item that all of them name
-- excludes no cover.
use Rattle.std.specs.Prelude.{◌≡◌, ℕ, ◌+◌, List, [], ◌∷◌, ◌++◌, length, map, Bool, true, not, ◌&&◌, nat_eq, nat_le, nat_lt, if◌then◌else◌}
use Rattle.std.specs.List.{list_all, list_any, sum_by}
use Rattle.std.specs.Cmp.Lexicographic.{pointwise}
use Rattle.cover_problem.specs.declared.limits.TheConstants.{MOST_ITEMS, MOST_NODES}
use Rattle.cover_problem.specs.ExactCover.{IsExactCover}
use Rattle.cover_problem.specs.Numbers.{is_in}
use Rattle.cover_problem.specs.Prefix.{are_options, clash}
use Rattle.cover_problem.specs.Problem.{Problem, problem_by, option_numbers, items_of, colours_of, is_name}
use Rattle.clash_cliques.specs.declared.clique.Clique.{Clique}
use Rattle.used_items.specs.Covers.{HaveSameCovers}

-- whether the option clashes with each of a list
abbrev pub clashes_with : Problem → ℕ → List ℕ → Bool
clashes_with problem option others = list_all (λ other. clash problem option other) others

-- whether each two options of a list clash
abbrev pub clash_by_twos : Problem → List ℕ → Bool
clash_by_twos problem [] = true
clash_by_twos problem (o ∷ os) = clashes_with problem o os && clash_by_twos problem os

-- Every exact cover has at most one option of the list.
abbrev pub IsChosenOnce : Problem → List ℕ → Type 0
IsChosenOnce problem options = (chosen : ℕ → Bool) (o p : ℕ) → IsExactCover problem chosen →
    is_in options o ≡ true → is_in options p ≡ true → chosen o ≡ true → chosen p ≡ true → o ≡ p

-- whether the problem has room for a further item of this name: no item has the name, and limits are kept
abbrev pub has_room_for : Problem → List ℕ → Bool
has_room_for problem name =
    is_name name
    && not (list_any (pointwise nat_eq name) problem.names)
    && nat_lt (length problem.names) MOST_ITEMS
    && nat_le (sum_by length problem.options + length problem.options) MOST_NODES

-- whether it is a clique: there is room for its item, and its options clash by twos
abbrev pub is_clique : Problem → Clique → Bool
is_clique problem clique = has_room_for problem clique.name && are_options problem clique.options && clash_by_twos problem clique.options

-- the items of an option, and behind them the further one if the option is of the clique
abbrev pub items_with : Problem → List ℕ → ℕ → List ℕ
items_with problem clique option = if is_in clique option then items_of problem option ++ length problem.names ∷ [] else items_of problem option

-- the colours of its items, none for the further one
abbrev pub colours_with : Problem → List ℕ → ℕ → List ℕ
colours_with problem clique option = if is_in clique option then colours_of problem option ++ 0 ∷ [] else colours_of problem option

-- the problem with a further secondary item, which the options of the clique name
abbrev pub with_clique : Problem → Clique → Problem
with_clique problem clique =
    problem_by
    (problem.names ++ clique.name ∷ [])
    problem.primary
    (map (items_with problem clique.options) (option_numbers problem))
    (map (colours_with problem clique.options) (option_numbers problem))
    problem.colour_names

-- the same for one clique after the other
abbrev pub with_cliques : Problem → List Clique → Problem
with_cliques problem [] = problem
with_cliques problem (c ∷ cs) = with_cliques (with_clique problem c) cs

-- whether each of them is a clique, once those before it have their items
abbrev pub are_cliques : Problem → List Clique → Bool
are_cliques problem [] = true
are_cliques problem (c ∷ cs) = is_clique problem c && are_cliques (with_clique problem c) cs

-- It is the problem with an item for each of these cliques, and it has the same exact covers.
pub record IsWithCliques (problem : Problem) (cliques : List Clique) (made : Problem) : Type 0 where
  pub each : are_cliques problem cliques ≡ true
  pub is : made ≡ with_cliques problem cliques
  pub covers : HaveSameCovers problem made
