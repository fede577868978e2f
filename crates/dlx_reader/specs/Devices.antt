-- What a device did in a call: the bytes that a writer then holds, and its count of failures.
use Rattle.std.specs.Prelude.{◌≡◌, ℕ, suc, min, ◌<◌, List, take, length, Option, Result, MatchResult}
use Rattle.std.specs.Io.KnownBytes.{Appends}

-- known bytes grow by a beginning of a text, and not by all of it
pub record AppendsFront (old new : Option (List ℕ)) (text : List ℕ) : Type 0 where
  pub count : ℕ
  pub proper : count < length text
  pub known : Appends old new (take count text)

-- a text is written, or after a fault a beginning of it
abbrev pub IsWritten : {T E : Type 0} → Option (List ℕ) → Option (List ℕ) → List ℕ → Result T E → Type 0
IsWritten old new text r = MatchResult r (λ _. Appends old new text) (λ _. AppendsFront old new text)

-- the greatest number of failures that a device reports
abbrev pub most_failures : ℕ
most_failures = 18446744073709551615

-- one failure more, unless that many can't be told
abbrev pub failed_once : ℕ → ℕ
failed_once failures = min (suc failures) most_failures

-- a fault is one failure, and else their number stayed
abbrev pub IsCounted : {T E : Type 0} → ℕ → ℕ → Result T E → Type 0
IsCounted old new r = MatchResult r (λ _. new ≡ old) (λ _. new ≡ failed_once old)
