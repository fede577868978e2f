-- Tints: numbers for the pairs of an item and a colour that some option gives it.
use Rattle.std.specs.Prelude.{◌≡◌, ℕ, ◌+◌, ◌*◌, ◌<◌, ◌≤◌, List, [], length, slice_index_or, Some, ◌==◌, if◌then◌else◌}
use Rattle.std.specs.BTreeMap.{BTreeMap, get}
use Rattle.std.specs.Ordering.{nat_cmp}
use Rattle.cover_problem.specs.Problem.{Problem, items_of, colours_of}

-- the key of an item in a colour, 0 for no colour; colours are below 16384
abbrev pub key_of : ℕ → ℕ → ℕ
key_of item colour = if colour == 0 then 0 else item * 16384 + colour

-- the key with a number
abbrev pub key_at : List ℕ → ℕ → ℕ
key_at keys number = slice_index_or keys number 0

-- no two keys are equal
abbrev pub AreApart : List ℕ → Type 0
AreApart keys = (m n : ℕ) → m < length keys → n < length keys → key_at keys m ≡ key_at keys n → m ≡ n

-- each key has its place as its number, and the first one is that of no colour
pub record IsNumbering (keys : List ℕ) (index : BTreeMap ℕ ℕ) : Type 0 where
  pub known : (key number : ℕ) → get nat_cmp index key ≡ Some number → (number < length keys) × (key_at keys number ≡ key)
  pub found : (number : ℕ) → number < length keys → get nat_cmp index (key_at keys number) ≡ Some number
  pub some : 0 < length keys
  pub plain : key_at keys 0 ≡ 0

-- some keys, and maybe more behind them
pub record Extends (old new : List ℕ) : Type 0 where
  pub longer : length old ≤ length new
  pub same : (number : ℕ) → number < length old → key_at new number ≡ key_at old number

-- a number of a key
abbrev pub IsNumberOf : List ℕ → ℕ → ℕ → Type 0
IsNumberOf keys key number = (number < length keys) × (key_at keys number ≡ key)

-- the numbers of the keys of some items in some colours, of the first ones of them
pub record AreNumbers (keys items colours tints : List ℕ) : Type 0 where
  pub long : length tints ≡ length items
  pub each : (k : ℕ) → k < length items → IsNumberOf keys (key_of (slice_index_or items k 0) (slice_index_or colours k 0)) (slice_index_or tints k 0)

-- the same for each option of a problem
pub record AreTints (problem : Problem) (keys : List ℕ) (lists : List (List ℕ)) : Type 0 where
  pub long : length lists ≡ length problem.options
  pub each : (o : ℕ) → o < length problem.options → AreNumbers keys (items_of problem o) (colours_of problem o) (slice_index_or lists o [])
  pub apart : AreApart keys
  pub some : 0 < length keys
  pub plain : key_at keys 0 ≡ 0
  pub few : length keys < 4294967296
