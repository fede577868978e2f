-- Levels of numbers, all of one width, one behind the other in a list; and what they are at each level of a search.
use Rattle.std.specs.Prelude.{◌≡◌, ℕ, ◌+◌, ◌*◌, ◌≤◌, List, length, take, drop, slice_index}
use Rattle.cover_problem.specs.Branching.{branch_item}
use Rattle.cover_problem.specs.Problem.{Problem}
use Rattle.option_sets.specs.Sets.{words_of}
use Rattle.live_sets.specs.declared.counts.Counts.{Counts}
use Rattle.live_sets.specs.declared.counts.Counts.TheVariants.{Keys, Planes, Halves}
use Rattle.live_sets.specs.declared.levels.Levels.{Levels}
use Rattle.live_sets.specs.Counting.{item_of, IsLive, AreMarked}
use Rattle.live_sets.specs.Planes.{ArePlaneCounts}

-- a level of so wide ones
abbrev pub level_at : ℕ → ℕ → List ℕ → List ℕ
level_at width depth numbers = take width (drop (depth * width) numbers)

-- the keys of each level
pub record AreKeyCounts (problem : Problem) (chosen keys : List ℕ) : Type 0 where
  pub long : length keys ≡ (problem.primary + 1) * problem.primary
  pub each : (e : ℕ) → e ≤ length chosen → AreMarked problem (take e chosen) (level_at problem.primary e keys)

-- the counts of each level, whichever they are
abbrev pub AreCounts : Problem → List ℕ → Counts → Type 0
AreCounts problem chosen (Keys keys) = AreKeyCounts problem chosen keys.items
AreCounts problem chosen (Planes planes) = (problem.primary ≤ 64) × (planes.first ≡ 0) × ArePlaneCounts problem chosen planes
AreCounts problem chosen (Halves low high) = (problem.primary ≤ 128) × (low.first ≡ 0) × (high.first ≡ 64) × ArePlaneCounts problem chosen low × ArePlaneCounts problem chosen high

-- what is kept of a prefix: its live options, and the least key, which gives the branch item
pub record IsLevel (problem : Problem) (prefix live : List ℕ) (least : ℕ) : Type 0 where
  pub is_live : IsLive problem prefix live
  pub branch : branch_item problem prefix ≡ item_of least

-- the levels of chosen options: that of the empty prefix, of the first option, of the first two, and so on to all; there is room for as many as there are primary items
pub record AreLevels (problem : Problem) (chosen : List ℕ) (levels : Levels) : Type 0 where
  pub words : length levels.live.items ≡ (problem.primary + 1) * words_of problem
  pub leasts : length levels.leasts.items ≡ problem.primary + 1
  pub each : (e : ℕ) → e ≤ length chosen → IsLevel problem (take e chosen) (level_at (words_of problem) e levels.live.items) (slice_index levels.leasts.items e)
  pub are_counts : AreCounts problem chosen levels.counts
