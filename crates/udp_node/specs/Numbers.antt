-- Things that are numbered by their places.
use Rattle.std.specs.Prelude.{◌≡◌, ℕ, ◌<◌, List, length, slice_index_or}

-- each has the number of its place, from 0
abbrev pub AreNumbered : {X : Type 0} → (X → ℕ) → List X → Type 0
AreNumbered number xs = (k : ℕ) (d : _) → k < length xs → number (slice_index_or xs k d) ≡ k
