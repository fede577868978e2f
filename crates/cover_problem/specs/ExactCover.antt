-- Exact covers (TAOCP 7.2.2.1), by counting; with colours as in its "exact covering with colors".
use Rattle.std.specs.Prelude.{◌≡◌, ℕ, ◌<◌, ◌≤◌, List, length, filter, count_by, Bool, true, ◌&&◌, ◌⊎◌}
use Rattle.cover_problem.specs.Numbers.{is_in}
use Rattle.cover_problem.specs.Problem.{Problem, option_numbers, names_item, colour_of}

-- A set of options is a test on their numbers. How many options of the set name the item
abbrev pub uses : Problem → (ℕ → Bool) → ℕ → ℕ
uses problem chosen item = count_by (λ o. chosen o && names_item problem o item) (option_numbers problem)

-- One colour that each option of the set that names the item gives it.
pub record IsInOneColour (problem : Problem) (chosen : ℕ → Bool) (item : ℕ) : Type 0 where
  pub colour : ℕ
  pub some : 1 ≤ colour
  pub each : (o : ℕ) → chosen o ≡ true → names_item problem o item ≡ true → colour_of problem o item ≡ colour

-- A set of options of which each primary item is named by exactly one. Each secondary item is named by at most one, or all that
-- name it give it one and the same colour.
pub record IsExactCover (problem : Problem) (chosen : ℕ → Bool) : Type 0 where
  pub in_range : (o : ℕ) → chosen o ≡ true → o < length problem.options
  pub primary : (item : ℕ) → item < problem.primary → uses problem chosen item ≡ 1
  pub secondary : (item : ℕ) → problem.primary ≤ item → (uses problem chosen item ≤ 1) ⊎ IsInOneColour problem chosen item

-- the options of the list, in file order and each once
abbrev pub in_order : Problem → List ℕ → List ℕ
in_order problem options = filter (λ o. is_in options o) (option_numbers problem)
