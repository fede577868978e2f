-- The options that name each item.
use Rattle.std.specs.Prelude.{◌≡◌, ℕ, List, filter, map}
use Rattle.std.specs.List.{range_with_len}
use Rattle.cover_problem.specs.Problem.{Problem, names_item, option_numbers}

-- the options that name an item, in file order
abbrev pub options_naming : Problem → ℕ → List ℕ
options_naming problem item = filter (λ option. names_item problem option item) (option_numbers problem)

-- those of each primary item
abbrev pub AreNamings : Problem → List (List ℕ) → Type 0
AreNamings problem lists = lists ≡ map (options_naming problem) (range_with_len 0 problem.primary)
