-- What is left for a loop over options or items: the words of the loops' invariants.
use Rattle.std.specs.Prelude.{ℕ, ◌-◌, List, [], ◌∷◌, ◌++◌, length, not, Option, filter}
use Rattle.std.specs.List.{range_with_len}
use Rattle.cover_problem.specs.Branching.{is_choice}
use Rattle.cover_problem.specs.Prefix.{is_covered}
use Rattle.cover_problem.specs.Problem.{Problem}
use Rattle.cover_problem.specs.Search.{first_some, visits_until, first_within, visits_within}

-- the live options that name the item, from an option on
unfoldable pub live_options_from : Problem → List ℕ → ℕ → ℕ → List ℕ
live_options_from problem prefix item start = filter (is_choice problem prefix item) (range_with_len start (length problem.options - start))

-- the uncovered primary items, from an item on
unfoldable pub open_items_from : Problem → List ℕ → ℕ → List ℕ
open_items_from problem prefix start = filter (λ item. not (is_covered problem prefix item)) (range_with_len start (problem.primary - start))

-- what these options, each put to the prefix in turn, come to
unfoldable pub first_among : Problem → ℕ → List ℕ → List ℕ → Option (List ℕ)
first_among problem bound prefix options = first_some (λ o. first_within problem bound (prefix ++ o ∷ [])) options

-- how many visits that takes, until the first cover
unfoldable pub visits_among : Problem → ℕ → List ℕ → List ℕ → ℕ
visits_among problem bound prefix options = visits_until (λ o. first_within problem bound (prefix ++ o ∷ [])) (λ o. visits_within problem bound (prefix ++ o ∷ [])) options
