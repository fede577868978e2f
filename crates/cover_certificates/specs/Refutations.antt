-- What a certificate says: a refutation, whose parts may be used several times.
use Rattle.std.specs.Prelude.{◌≡◌, ℕ, ◌<◌, length, Bool, true, false, not, ◌&&◌}
use Rattle.cover_problem.specs.Prefix.{clash}
use Rattle.cover_problem.specs.Problem.{Problem, names_item}
use Rattle.cover_reasons.specs.declared.reason.Reason.{Reason}
use Rattle.cover_certificates.specs.Reasons.{HoldsOf}

-- the live options that don't clash with an option
abbrev pub live_behind : Problem → (ℕ → Bool) → ℕ → ℕ → Bool
live_behind problem live option other = live other && not (clash problem option other)

-- A refutation of items by live options. By cases: whichever live option names one of the items, some of those that it doesn't name are
-- refuted by the options that are live behind it. Or fewer items are refuted by more options, those counted that name one of these items.
-- Or a reason holds.
pub data Refutes (problem : Problem) : (ℕ → Bool) → (ℕ → Bool) → Type 0 where
  by_cases : (items live : ℕ → Bool) (item : ℕ) (below : ℕ → ℕ → Bool) → items item ≡ true
      → ((option i : ℕ) → below option i ≡ true → items i ≡ true)
      → ((option i : ℕ) → below option i ≡ true → names_item problem option i ≡ false)
      → ((option : ℕ) → option < length problem.options → live option ≡ true → names_item problem option item ≡ true
      → Refutes problem (below option) (live_behind problem live option))
      → Refutes problem items live
  within : (items live fewer more : ℕ → Bool)
      → ((i : ℕ) → fewer i ≡ true → items i ≡ true)
      → ((i option : ℕ) → fewer i ≡ true → names_item problem option i ≡ true → live option ≡ true → more option ≡ true)
      → Refutes problem fewer more → Refutes problem items live
  by_reason : (items live : ℕ → Bool) (reason : Reason) → HoldsOf problem items live reason → Refutes problem items live
