-- Rows: sets of options as the words of them that aren't zero.
use Rattle.std.specs.Prelude.{◌≡◌, ℕ, ◌*◌, ◌/◌, ◌<◌, ◌≤◌, List, [], length, slice_index_or, Bool, true, ◌==◌, ◌&&◌, ◌||◌, nat_lt}
use Rattle.std.specs.List.{All}
use Rattle.std.specs.List.Sorted.{IsStrictlyIncreasing}
use Rattle.cover_problem.specs.Numbers.{is_in}
use Rattle.option_sets.specs.declared.word.Word.{Word}
use Rattle.option_sets.specs.Sets.{row_has, places}

-- the words of a set of options below a number, by rising places, without those that are zero
pub record IsRowBy (n : ℕ) (member : ℕ → Bool) (row : List Word) : Type 0 where
  pub rising : IsStrictlyIncreasing (places row)
  pub below : All (λ w. w.place * 64 < n) row
  pub some : All (λ w. 1 ≤ w.bits) row
  pub held : (place : ℕ) → is_in (places row) place ≡ true → (x : ℕ) × (x / 64 ≡ place) × (member x ≡ true)
  pub exact : (x : ℕ) → row_has row x ≡ member x

-- The words of such sets, one for each number.
abbrev pub AreRowsBy : ℕ → (ℕ → ℕ → Bool) → List (List Word) → Type 0
AreRowsBy n member rows = (t : ℕ) → t < length rows → IsRowBy n (member t) (slice_index_or rows t [])

-- whether an option is in the set of a number, once one more option is in the sets of a list
abbrev pub with_option : (ℕ → ℕ → Bool) → ℕ → List ℕ → ℕ → ℕ → Bool
with_option member option sets t x = member t x || (x == option && is_in sets t)

-- whether an option below a number is in a set, by the sets of each option
abbrev pub stands_below : List (List ℕ) → ℕ → ℕ → ℕ → Bool
stands_below lists n t x = nat_lt x n && is_in (slice_index_or lists x []) t

-- the sets of a list of each option, by their numbers
pub record AreRowsOf (lists : List (List ℕ)) (count : ℕ) (rows : List (List Word)) : Type 0 where
  pub long : length rows ≡ count
  pub each : AreRowsBy (length lists) (stands_below lists (length lists)) rows

-- the words of one row stand at places of the other one's
abbrev pub IsPart : List Word → List Word → Type 0
IsPart kept row = (place : ℕ) → is_in (places kept) place ≡ true → is_in (places row) place ≡ true
