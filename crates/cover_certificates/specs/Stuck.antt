-- Items that can't be covered.
use Rattle.std.specs.Prelude.{◌≡◌, ℕ, ◌<◌, length, Bool, true, false}
use Rattle.cover_problem.specs.ExactCover.{uses}
use Rattle.cover_problem.specs.Prefix.{clash}
use Rattle.cover_problem.specs.Problem.{Problem, names_item}

-- A set of options, no two of which clash. Each of the items is named by exactly one of them, and that one is live.
pub record IsCoverOf (problem : Problem) (items live : ℕ → Bool) (chosen : ℕ → Bool) : Type 0 where
  pub in_range : (o : ℕ) → chosen o ≡ true → o < length problem.options
  pub apart : (o p : ℕ) → chosen o ≡ true → chosen p ≡ true → (o ≡ p → ⊥) → clash problem o p ≡ false
  pub once : (item : ℕ) → items item ≡ true → uses problem chosen item ≡ 1
  pub live_ones : (item o : ℕ) → items item ≡ true → chosen o ≡ true → names_item problem o item ≡ true → live o ≡ true

-- No set of options covers the items with live ones.
abbrev pub AreStuck : Problem → (ℕ → Bool) → (ℕ → Bool) → Type 0
AreStuck problem items live = (chosen : ℕ → Bool) → IsCoverOf problem items live chosen → ⊥
