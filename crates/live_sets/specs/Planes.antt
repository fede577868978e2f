-- How many live options name each of a few primary items, digit by digit.
use Rattle.std.specs.Prelude.{◌≡◌, ℕ, ◌+◌, ◌*◌, ◌<◌, ◌≤◌, ◌↔◌, List, [], length, take, true, false, Option, Some, MatchOption, nat_lt, ◌==◌, ◌&&◌, count_by, slice_get, slice_index_or}
use Rattle.std.specs.Int.{bit_at}
use Rattle.std.specs.List.{range_with_len}
use Rattle.cover_problem.specs.Branching.{live_options, IsOpen}
use Rattle.cover_problem.specs.Prefix.{is_covered}
use Rattle.cover_problem.specs.Problem.{Problem, names_item}
use Rattle.option_sets.specs.Sets.{has}
use Rattle.item_planes.specs.declared.planes.Planes.{Planes}
use Rattle.item_planes.specs.Counts.{count_at}
use Rattle.live_sets.specs.declared.plane_counts.PlaneCounts.{PlaneCounts}

-- which of the 64 items from a first one on are primary ones of an option, as bits
abbrev pub IsMask : Problem → ℕ → ℕ → ℕ → Type 0
IsMask problem first option mask = (i : ℕ) → i < 64 → (bit_at mask i == 1) ≡ (nat_lt (first + i) problem.primary && names_item problem option (first + i))

-- those of all options
pub record AreMasks (problem : Problem) (first : ℕ) (masks : List ℕ) : Type 0 where
  pub long : length masks ≡ length problem.options
  pub each : (o : ℕ) → o < length problem.options → IsMask problem first o (slice_index_or masks o 0)

-- how many options of a word name an item
unfoldable pub named_in : List ℕ → ℕ → ℕ → ℕ → ℕ
named_in masks place bits i = count_by (λ k. bit_at bits k == 1 && bit_at (slice_index_or masks (place * 64 + k) 0) i == 1) (range_with_len 0 64)

-- how many options of a set name an item
abbrev pub named_of : Problem → List ℕ → ℕ → ℕ
named_of problem set i = count_by (λ x. names_item problem x i && has set x) (range_with_len 0 (64 * length set))

-- which primary items from a first one on are uncovered, and how many live options name each one
pub record ArePlanes (problem : Problem) (prefix : List ℕ) (first : ℕ) (planes : Planes) : Type 0 where
  pub uncovered : (i : ℕ) → i < 64 → (bit_at planes.uncovered i ≡ 1) ↔ ((first + i < problem.primary) × (is_covered problem prefix (first + i) ≡ false))
  pub counted : (i : ℕ) → i < 64 → first + i < problem.primary → count_at planes i ≡ length (live_options problem prefix (first + i))

-- of 64 items from a first one on the uncovered one with fewest live options, the first of those, and how many these are
pub record IsFewestOf (problem : Problem) (prefix : List ℕ) (first item count : ℕ) : Type 0 where
  pub is_open : IsOpen problem prefix item
  pub counted : length (live_options problem prefix item) ≡ count
  pub from : first ≤ item
  pub inside : item < first + 64
  pub fewest : (other : ℕ) → first ≤ other → other < first + 64 → IsOpen problem prefix other → count ≤ length (live_options problem prefix other)
  pub before : (other : ℕ) → first ≤ other → other < item → IsOpen problem prefix other → count < length (live_options problem prefix other)

-- both, or none where all are covered
abbrev pub IsLeastOf : Problem → List ℕ → ℕ → Option (ℕ × ℕ) → Type 0
IsLeastOf problem prefix first result =
    MatchOption result ((other : ℕ) → first ≤ other → other < first + 64 → other < problem.primary → is_covered problem prefix other ≡ true) (λ least. IsFewestOf problem prefix first least.0 least.1)

-- there are few primary items, with few options each
pub record IsSmall (problem : Problem) : Type 0 where
  pub items : problem.primary ≤ 128
  pub options : (i : ℕ) → i < problem.primary → length (live_options problem [] i) < 256

-- the planes of each level, from a first item on
pub record ArePlaneCounts (problem : Problem) (chosen : List ℕ) (counts : PlaneCounts) : Type 0 where
  pub masks : AreMasks problem counts.first counts.masks.items
  pub long : length counts.planes.items ≡ problem.primary + 1
  pub each : (e : ℕ) → e ≤ length chosen → (planes : Planes) → slice_get counts.planes.items e ≡ Some planes → ArePlanes problem (take e chosen) counts.first planes
