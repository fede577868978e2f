-- The branch item of a prefix and its children (TAOCP 7.2.2.1, branching on an item with fewest options).
use Rattle.std.specs.Prelude.{◌≡◌, ℕ, ◌<◌, ◌≤◌, List, [], ◌∷◌, ◌++◌, length, map, filter, Bool, false, not, ◌&&◌, nat_lt, Option, Some, None, if◌then◌else◌}
use Rattle.std.specs.List.{range_with_len}
use Rattle.cover_problem.specs.Prefix.{is_covered, is_live}
use Rattle.cover_problem.specs.Problem.{Problem, option_numbers, names_item}

-- whether the option is live and names the item
abbrev pub is_choice : Problem → List ℕ → ℕ → ℕ → Bool
is_choice problem prefix item option = is_live problem prefix option && names_item problem option item

-- the live options that name the item, in file order
unfoldable pub live_options : Problem → List ℕ → ℕ → List ℕ
live_options problem prefix item = filter (is_choice problem prefix item) (option_numbers problem)

-- the uncovered primary items, in order
unfoldable pub open_items : Problem → List ℕ → List ℕ
open_items problem prefix = filter (λ item. not (is_covered problem prefix item)) (range_with_len 0 problem.primary)

-- the one of two items with fewer live options, the former where they have as many
abbrev pub fewer_of : Problem → List ℕ → Option ℕ → ℕ → Option ℕ
fewer_of problem prefix None item = Some item
fewer_of problem prefix (Some best) item =
    Some (if nat_lt (length (live_options problem prefix item)) (length (live_options problem prefix best)) then item else best)

-- the first with fewest live options, of best and the items of a list
abbrev pub fewest_of : Problem → List ℕ → Option ℕ → List ℕ → Option ℕ
fewest_of problem prefix best [] = best
fewest_of problem prefix best (i ∷ is) = fewest_of problem prefix (fewer_of problem prefix best i) is

-- the uncovered primary item with fewest live options, the first of those; none where the prefix is complete
unfoldable pub branch_item : Problem → List ℕ → Option ℕ
branch_item problem prefix = fewest_of problem prefix None (open_items problem prefix)

-- the children where this is the branch item
abbrev pub children_at : Problem → List ℕ → Option ℕ → List (List ℕ)
children_at problem prefix None = []
children_at problem prefix (Some item) = map (λ o. prefix ++ o ∷ []) (live_options problem prefix item)

-- the prefix followed by one live option of the branch item, for each of these in file order
abbrev pub children : Problem → List ℕ → List (List ℕ)
children problem prefix = children_at problem prefix (branch_item problem prefix)

-- ---- what the branch item is

-- an uncovered primary item
pub record IsOpen (problem : Problem) (prefix : List ℕ) (item : ℕ) : Type 0 where
  pub primary : item < problem.primary
  pub uncovered : is_covered problem prefix item ≡ false

-- an uncovered primary item, than which no other has fewer live options, and those before it have more
pub record IsFirstFewest (problem : Problem) (prefix : List ℕ) (item : ℕ) : Type 0 where
  pub open_item : IsOpen problem prefix item
  pub fewest : (other : ℕ) → IsOpen problem prefix other
      → length (live_options problem prefix item) ≤ length (live_options problem prefix other)
  pub before : (other : ℕ) → IsOpen problem prefix other → other < item
      → length (live_options problem prefix item) < length (live_options problem prefix other)
