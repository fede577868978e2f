-- What choices of options are seen as, and how they change.
use Rattle.std.specs.Prelude.{◌≡◌, ℕ, ◌<◌, ◌+◌, List, [], ◌∷◌, ◌++◌, length, true, nat_lt, filter, Option, Some, None, IfSome, slice_get, slice_index_or}
use Rattle.cover_problem.specs.Onward.{live_options_from}
use Rattle.cover_problem.specs.Prefix.{is_live}
use Rattle.cover_problem.specs.Problem.{Problem, items_of, names_item}

-- a problem, the options chosen in it, in the order of the choices, and the item by which each was chosen: one of its own, which is covered first
pub record Choices : Type 0 where
  pub problem : Problem
  pub chosen : List ℕ
  pub branches : List ℕ

-- with one more option chosen, by an item
abbrev pub with_child : Choices → ℕ → ℕ → Choices
with_child choices item option = record choices { chosen = choices.chosen ++ option ∷ []; branches = choices.branches ++ item ∷ [] }

-- the first primary item of an option
abbrev pub first_primary : Problem → ℕ → ℕ
first_primary problem option = slice_index_or (filter (λ item. nat_lt item problem.primary) (items_of problem option)) 0 0

-- with one more option chosen, by its first primary item
abbrev pub with_choice : Choices → ℕ → Choices
with_choice choices option = with_child choices (first_primary choices.problem option) option

-- with one more option chosen by an item, if there is one
abbrev pub with_child_if : Choices → ℕ → Option ℕ → Choices
with_child_if choices item None = choices
with_child_if choices item (Some option) = with_child choices item option

-- a live option that names the item
pub record IsChild (problem : Problem) (chosen : List ℕ) (item option : ℕ) : Type 0 where
  pub inside : option < length problem.options
  pub live : is_live problem chosen option ≡ true
  pub named : names_item problem option item ≡ true

-- what comes in place of a choice by an item: the next live option that names the item, if one follows, chosen by the same item
pub record IsNextChoice (before : Choices) (item option : ℕ) (next : Option ℕ) (after : Choices) : Type 0 where
  pub next_is : next ≡ slice_get (live_options_from before.problem before.chosen item (option + 1)) 0
  pub child : IfSome next (IsChild before.problem before.chosen item)
  pub chosen : after ≡ with_child_if before item next
