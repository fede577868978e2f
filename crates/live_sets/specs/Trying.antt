-- The options that are left to be tried at an item.
use Rattle.std.specs.Prelude.{◌≡◌, ℕ, ◌^◌, ◌<◌, ◌≤◌, List, length, map, Option, MatchOption, Bool, true, false, nat_lt, ◌&&◌, ◌||◌}
use Rattle.std.specs.List.{All}
use Rattle.std.specs.List.Sorted.{IsStrictlyIncreasing}
use Rattle.option_sets.specs.declared.word.Word.{Word}
use Rattle.option_sets.specs.Sets.{has, row_has, word_has}
use Rattle.live_sets.specs.declared.untried.Untried.{Untried}

-- words by rising places, below so many
pub record AreBehind (width : ℕ) (row : List Word) : Type 0 where
  pub rising : IsStrictlyIncreasing (map (λ w. w.place) row)
  pub inside : All (λ w. w.place < width) row

-- whether an option is left
abbrev pub is_left : Untried → List ℕ → ℕ → Bool
is_left untried live x = word_has untried.place untried.bits x || (row_has untried.later.now x && has live x)

-- what is left, in words that come one behind the other
pub record IsTrying (width : ℕ) (untried : Untried) : Type 0 where
  pub behind : AreBehind width untried.later.now
  pub small : untried.bits < 2 ^ 64
  pub inside : 1 ≤ untried.bits → untried.place < width
  pub apart : 1 ≤ untried.bits → All (λ w. untried.place < w.place) untried.later.now

-- what is left is what is live in a row, and there is something in the first word; or nothing is
pub record IsFirstWordAt (row : List Word) (live : List ℕ) (untried : Untried) : Type 0 where
  pub some : 1 ≤ untried.bits
  pub trying : IsTrying (length live) untried
  pub left : (x : ℕ) → is_left untried live x ≡ (row_has row x && has live x)

-- the same, or none where no word has one
abbrev pub IsFirstWord : List Word → List ℕ → Option Untried → Type 0
IsFirstWord row live result = MatchOption result ((x : ℕ) → (row_has row x && has live x) ≡ false) (λ u. IsFirstWordAt row live u)

-- an option that is left, with none before it, and what is left behind it
pub record IsNextAt (untried : Untried) (live : List ℕ) (option : ℕ) (rest : Untried) : Type 0 where
  pub here : is_left untried live option ≡ true
  pub before : (x : ℕ) → x < option → is_left untried live x ≡ false
  pub trying : IsTrying (length live) rest
  pub left : (x : ℕ) → is_left rest live x ≡ (nat_lt option x && is_left untried live x)

-- the same, or none where no option is left
abbrev pub IsNext : Untried → List ℕ → Option (ℕ × Untried) → Type 0
IsNext untried live result = MatchOption result ((x : ℕ) → is_left untried live x ≡ false) (λ next. IsNextAt untried live next.0 next.1)

-- what is left of what is live in a row, behind an option
pub record IsBehind (row : List Word) (live : List ℕ) (option : ℕ) (untried : Untried) : Type 0 where
  pub trying : IsTrying (length live) untried
  pub left : (x : ℕ) → is_left untried live x ≡ (nat_lt option x && (row_has row x && has live x))
