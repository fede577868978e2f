-- The search of a prefix: the first exact cover below it, the visits, and what comes of it with some fuel.
use Rattle.std.specs.Prelude.{ℕ, zero, suc, ◌+◌, List, [], ◌∷◌, ◌++◌, nat_lt, Option, Some, None, is_some, if◌then◌else◌}
use Rattle.std.specs.Option.{option_map_or}
use Rattle.cover_problem.specs.Branching.{live_options, branch_item}
use Rattle.cover_problem.specs.Problem.{Problem}

-- ---- First and visits

-- the first of two that is there
abbrev pub or_else : Option (List ℕ) → Option (List ℕ) → Option (List ℕ)
or_else None later = later
or_else (Some cover) later = Some cover

-- what is found for the first for which something is found
abbrev pub first_some : {X : Type 0} → (X → Option (List ℕ)) → List X → Option (List ℕ)
first_some found [] = None
first_some found (x ∷ xs) = or_else (found x) (first_some found xs)

-- the visits up to and with the first for which something is found
abbrev pub visits_until : {X : Type 0} → (X → Option (List ℕ)) → (X → ℕ) → List X → ℕ
visits_until found visits [] = 0
visits_until found visits (x ∷ xs) = visits x + (if is_some (found x) then 0 else visits_until found visits xs)

-- A complete prefix is its own first cover. Else it is that of the first child that has one. The bound is on the uncovered primary items.
unfoldable pub first_within : Problem → ℕ → List ℕ → Option (List ℕ)
first_within problem zero prefix = Some prefix
first_within problem (suc bound) prefix =
    option_map_or (λ item. first_some (λ o. first_within problem bound (prefix ++ o ∷ [])) (live_options problem prefix item)) (branch_item problem prefix) (Some prefix)

-- A visit of the prefix, and the visits of the children up to and with the first that has a cover.
unfoldable pub visits_within : Problem → ℕ → List ℕ → ℕ
visits_within problem zero prefix = 1
visits_within problem (suc bound) prefix =
    option_map_or
    (λ item. 1 + visits_until (λ o. first_within problem bound (prefix ++ o ∷ [])) (λ o. visits_within problem bound (prefix ++ o ∷ [])) (live_options problem prefix item))
    (branch_item problem prefix)
    1

-- Each child covers one more primary item, so a bound of all primary items is no bound: `search_by_children` has both without it.
abbrev pub first : Problem → List ℕ → Option (List ℕ)
first problem prefix = first_within problem problem.primary prefix

-- how many prefixes are visited until then, or in all
abbrev pub visits : Problem → List ℕ → ℕ
visits problem prefix = visits_within problem problem.primary prefix

-- ---- the outcome

-- what a search with limited fuel came to
pub data Outcome : Type 0 where
  Covers : List ℕ → Outcome
  Barren : Outcome
  Spent : Outcome

-- the first cover, or that there is none
abbrev pub found_outcome : Option (List ℕ) → Outcome
found_outcome None = Barren
found_outcome (Some cover) = Covers cover

-- spent exactly where there are more visits than there is fuel; else whether there is a first cover
abbrev pub outcome : Problem → List ℕ → ℕ → Outcome
outcome problem prefix fuel = if nat_lt fuel (visits problem prefix) then Spent else found_outcome (first problem prefix)
