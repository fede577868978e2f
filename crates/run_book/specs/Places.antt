-- Entries at their places.
use Rattle.std.specs.Prelude.{◌≡◌, ℕ, ◌+◌, ◌==◌, ◌<◌, List, [], ◌∷◌, length, map, if◌then◌else◌, Some, slice_get}
use Rattle.std.specs.List.{AllByRecursion}
use Rattle.run_book.specs.Entries.{Entry, Placed}

-- the entry stands in the log at its place
abbrev pub StandsIn : List Entry → Placed → Type 0
StandsIn log placed = slice_get log placed.place ≡ Some placed.entry

-- each stands there
abbrev pub AllStand : List Entry → List Placed → Type 0
AllStand log all = AllByRecursion (StandsIn log) all

-- how often a number stands in a list
abbrev pub times : ℕ → List ℕ → ℕ
times k [] = 0
times k (x ∷ xs) = (if k == x then 1 else 0) + times k xs

-- the places, in the order of the list
abbrev pub places : List Placed → List ℕ
places all = map (λ placed. placed.place) all

-- The numbers are those below n, each once and none left out.
pub record AreBelow (n : ℕ) (numbers : List ℕ) : Type 0 where
  pub many : length numbers ≡ n
  pub once : (k : ℕ) → k < n → times k numbers ≡ 1
