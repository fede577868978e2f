-- How a link counts its failures.
use Rattle.std.specs.Prelude.{ℕ, suc, min}

-- the greatest number of failures that a link reports
abbrev pub most_failures : ℕ
most_failures = 18446744073709551615

-- one failure more; the greatest number stays
abbrev pub failed_once : ℕ → ℕ
failed_once failures = min (suc failures) most_failures
