-- A text that is passed on to a writer piece by piece, where pieces wait to be written together.
use Rattle.std.specs.Prelude.{◌≡◌, ℕ, List, ◌++◌, Option, Result, MatchResult}
use Rattle.std.specs.Io.KnownBytes.{Appends}
use Rattle.dlx_reader.specs.Devices.{AppendsFront}

-- of bytes that waited and a text behind them, some were written, and the others wait
pub record Buffers (waited waits : List ℕ) (old new : Option (List ℕ)) (text : List ℕ) : Type 0 where
  pub written : List ℕ
  pub known : Appends old new written
  pub parts : waited ++ text ≡ written ++ waits

-- a text was written or waits, or after a fault a beginning of what waited and of it was written
abbrev pub IsBuffered : {T E : Type 0} → List ℕ → List ℕ → Option (List ℕ) → Option (List ℕ) → List ℕ → Result T E → Type 0
IsBuffered waited waits old new text r = MatchResult r (λ _. Buffers waited waits old new text) (λ _. AppendsFront old new (waited ++ text))
