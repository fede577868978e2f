-- Words by which prefixes are known below which the search is the same.
use Rattle.std.specs.Prelude.{◌≡◌, ℕ, ◌<◌, ◌/◌, ◌%◌, List, length, slice_index_or, Bool, not, ◌==◌}
use Rattle.std.specs.Int.{bit_at}
use Rattle.cover_problem.specs.Alike.{IsAlive}
use Rattle.cover_problem.specs.Prefix.{is_covered, is_live}
use Rattle.cover_problem.specs.Problem.{Problem}

-- whether bit x % 64 of word x / 64 is 1
abbrev pub has_bit : List ℕ → ℕ → Bool
has_bit words x = bit_at (slice_index_or words (x / 64) 0) (x % 64) == 1

-- which options are live, where each uncovered primary item has a live option
pub record TellLive (problem : Problem) (prefix words : List ℕ) : Type 0 where
  pub live : (option : ℕ) → option < length problem.options → has_bit words option ≡ is_live problem prefix option
  pub alive : IsAlive problem prefix

-- which primary items are uncovered
abbrev pub TellUncovered : Problem → List ℕ → List ℕ → Type 0
TellUncovered problem prefix words = (item : ℕ) → item < problem.primary → has_bit words item ≡ not (is_covered problem prefix item)

-- the words are a key: where all items are primary, their bits are those of the uncovered items, else those of the live options
pub record IsKey (problem : Problem) (prefix words : List ℕ) : Type 0 where
  pub uncovered : problem.primary ≡ length problem.names → TellUncovered problem prefix words
  pub live : problem.primary < length problem.names → TellLive problem prefix words
