-- Prefixes that leave the same: below them the search is the same.
use Rattle.std.specs.Prelude.{◌≡◌, ℕ, ◌<◌, ◌≤◌, List, ◌++◌, length, Option}
use Rattle.std.specs.Option.{option_map}
use Rattle.cover_problem.specs.Branching.{live_options, IsOpen}
use Rattle.cover_problem.specs.Prefix.{is_covered, is_live}
use Rattle.cover_problem.specs.Problem.{Problem}

-- the same options are live at both
abbrev pub AreAsLive : Problem → List ℕ → List ℕ → Type 0
AreAsLive problem prefix other = (option : ℕ) → option < length problem.options → is_live problem prefix option ≡ is_live problem other option

-- and the same primary items are uncovered
pub record AreAlike (problem : Problem) (prefix other : List ℕ) : Type 0 where
  pub live : AreAsLive problem prefix other
  pub covered : (item : ℕ) → item < problem.primary → is_covered problem prefix item ≡ is_covered problem other item

-- Each uncovered primary item has a live option.
abbrev pub IsAlive : Problem → List ℕ → Type 0
IsAlive problem prefix = (item : ℕ) → IsOpen problem prefix item → 1 ≤ length (live_options problem prefix item)

-- the prefix with these options behind it, if there are such
abbrev pub followed_by : List ℕ → Option (List ℕ) → Option (List ℕ)
followed_by prefix rest = option_map (λ options. prefix ++ options) rest
