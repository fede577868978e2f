-- That a hasher holds a message is a fact, so that a field of a struct may say it.
use Rattle.std.specs.Prelude.{ℕ, List}
use Rattle.std.specs.Coded.{coded_ℕ, coded_list}
use native.Mathlib.Nat.{ℕ_set}
use mathlib.Core.HLevel.{×_prop}
use denote.Struct.Props.{≡_prop}
use Rattle.sha2.specs.Hashers.{Holds256}
use Rattle.sha2.specs.Sha256.{Holds}
use Rattle.sha2.specs.declared.Sha256.{Sha256}

pub holds_prop : (hasher : Sha256) (message : List ℕ) → IsProp (Holds256 hasher message)
unfolding Holds
holds_prop hasher message =
    ×_prop (ℕ_set _ _) (×_prop (≡_prop (coded_list coded_ℕ) _ _) (≡_prop (coded_list coded_ℕ) _ _))
