-- A walk to the first cover in the order of the search (TAOCP 7.2.2.1, branching on an item with fewest options), by questions whether an
-- exact cover begins with given options (Eén and Sörensson, "Temporal induction by incremental SAT solving").
use Rattle.std.specs.Prelude.{◌≡◌, ℕ, List, [], ◌∷◌, ◌++◌, map, true, Option, Some, None, IfSome}
use Rattle.std.specs.List.{AllByRecursion}
use Rattle.cover_problem.specs.Branching.{branch_item, children}
use Rattle.cover_problem.specs.Onward.{live_options_from}
use Rattle.cover_problem.specs.Prefix.{IsBarren, IsCoverOver, is_prefix}
use Rattle.cover_problem.specs.Problem.{Problem}
use Rattle.cover_problem.specs.Search.{first}
use Rattle.choices.specs.Choices.{Choices, IsChild, with_child}

-- what a walk is over, and the options that it has chosen
pub record Walked : Type 0 where
  pub problem : Problem
  pub chosen : List ℕ

-- with the last of these where it is in question, and a cover that is at hand
pub record Walk : Type 0 where
  pub problem : Problem
  pub chosen : List ℕ
  pub asked : Option ℕ
  pub cover : Option (List ℕ)

-- No exact cover extends any of these prefixes.
abbrev pub AreBarren : Problem → List (List ℕ) → Type 0
AreBarren problem prefixes = AllByRecursion (λ prefix. IsBarren problem prefix) prefixes

-- the children of a prefix by an item, from an option on
abbrev pub children_from : Problem → List ℕ → ℕ → ℕ → List (List ℕ)
children_from problem prefix item start = map (λ o. prefix ++ o ∷ []) (live_options_from problem prefix item start)

-- The first cover of the problem is that of these options, which are a prefix, and the cover at hand, if there is one, extends them.
pub record IsReached (problem : Problem) (prefix : List ℕ) (cover : Option (List ℕ)) : Type 0 where
  pub first : first problem [] ≡ first problem prefix
  pub lawful : is_prefix problem prefix ≡ true
  pub at_hand : IfSome cover (λ options. IsCoverOver problem prefix options)

-- The option was chosen last, by the branch item, and no exact cover extends an earlier child.
pub record IsInQuestion (now : Choices) (option : ℕ) (cover : Option (List ℕ)) : Type 0 where
  pub before : Choices
  pub item : ℕ
  pub earlier : List (List ℕ)
  pub chosen : now ≡ with_child before item option
  pub reached : IsReached before.problem before.chosen cover
  pub branch : branch_item before.problem before.chosen ≡ Some item
  pub child : IsChild before.problem before.chosen item option
  pub split : children before.problem before.chosen ≡ earlier ++ children_from before.problem before.chosen item option
  pub barren : AreBarren before.problem earlier

-- whether the last option is in question or not, the first cover begins with the options before it
abbrev pub IsOnTheWay : Choices → Option ℕ → Option (List ℕ) → Type 0
IsOnTheWay now None cover = IsReached now.problem now.chosen cover
IsOnTheWay now (Some option) cover = IsInQuestion now option cover
