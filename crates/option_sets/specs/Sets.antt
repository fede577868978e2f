-- Sets of options as words: bit x % 64 of word x / 64 says whether option x is in.
use Rattle.std.specs.Prelude.{◌≡◌, ℕ, ◌+◌, ◌/◌, ◌%◌, ◌<◌, ◌≤◌, List, length, map, slice_index_or, Bool, true, ◌==◌, ◌&&◌}
use Rattle.std.specs.Int.{bit_at}
use Rattle.std.specs.List.{All, list_any}
use Rattle.std.specs.List.Sorted.{IsStrictlyIncreasing}
use Rattle.cover_problem.specs.Numbers.{is_in}
use Rattle.cover_problem.specs.Problem.{Problem, names_item}
use Rattle.option_sets.specs.declared.word.Word.{Word}

-- how many words a set of a problem's options has
abbrev pub words_of : Problem → ℕ
words_of problem = (length problem.options + 63) / 64

-- whether the word at a place of a set, 64 options to a word, has the option
abbrev pub word_has : ℕ → ℕ → ℕ → Bool
word_has place bits x = place == x / 64 && bit_at bits (x % 64) == 1

-- whether the option is in the set that is given by all its words; outside them nothing is
abbrev pub has : List ℕ → ℕ → Bool
has words x = bit_at (slice_index_or words (x / 64) 0) (x % 64) == 1

-- whether the option is in the set that is given by some of its words
abbrev pub row_has : List Word → ℕ → Bool
row_has row x = list_any (λ w. word_has w.place w.bits x) row

-- which words of the set these are
abbrev pub places : List Word → List ℕ
places row = map (λ w. w.place) row

-- words of a set of options, by rising places, without those that are zero: each has an option
pub record AreWords (problem : Problem) (row : List Word) : Type 0 where
  pub rising : IsStrictlyIncreasing (places row)
  pub inside : All (λ w. w.place < words_of problem) row
  pub some : All (λ w. 1 ≤ w.bits) row
  pub held : (place : ℕ) → is_in (places row) place ≡ true → (x : ℕ) × (x / 64 ≡ place) × (row_has row x ≡ true)

-- the words of the options that name an item
pub record IsRow (problem : Problem) (item : ℕ) (row : List Word) : Type 0 where
  pub words : AreWords problem row
  pub exact : (x : ℕ) → row_has row x ≡ names_item problem x item
