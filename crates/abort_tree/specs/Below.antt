-- Which own children are below some units, and what an abort makes of them (abort of the Cilk 5.4 manual).
use Rattle.std.specs.Prelude.{◌≡◌, ℕ, ◌<◌, ◌≤◌, Bool, true, false, ◌&&◌, if◌then◌else◌, List, [], ◌∷◌, ◌++◌, length, map, get_or, Option, Some, None, slice_get, ◌==◌}
use Rattle.std.specs.List.{Contains, list_any, range_with_len}
use Rattle.std.specs.List.Sorted.{IsStrictlyIncreasing}
use Rattle.spawn_frame.specs.Aborts.{IsBelow, Reached, is_open, reached, reached_one}
use Rattle.spawn_frame.specs.Names.{same_unit}
use Rattle.spawn_frame.specs.Tables.{parent_in}
use Rattle.spawn_frame.specs.Units.{Entry, with_status}
use Rattle.spawn_frame.specs.declared.status.Status.TheVariants.{Aborted}
use Rattle.spawn_frame.specs.declared.unit.Unit.{Unit as WorkUnit}
use Rattle.spawn_frame.specs.declared.unit.Unit.TheVariants.{Own}

-- it is one of the units
abbrev pub is_among : List WorkUnit → WorkUnit → Bool
is_among units unit = list_any (λ other. same_unit other unit) units

-- The marks say of each own child, by serial, whether it is below one of the units.
pub record MarksBelow (top : WorkUnit → Bool) (own : List Entry) (marks : List Bool) : Type 0 where
  pub one_each : length marks ≡ length own
  pub marked : (k : ℕ) → slice_get marks k ≡ Some true → IsBelow top own k
  pub unmarked : (k : ℕ) → slice_get marks k ≡ Some false → IsBelow top own k → ⊥

-- an own child, aborted where it is marked and open
abbrev pub abort_if : Bool → Entry → Entry
abort_if marked c = if marked && is_open c.status then with_status Aborted c else c

-- the own children, each that is marked and open aborted
abbrev pub aborted : List Bool → List Entry → List Entry
aborted [] own = own
aborted (m ∷ ms) [] = []
aborted (m ∷ ms) (c ∷ cs) = abort_if m c ∷ aborted ms cs

-- the children that the abort of the marked ones reaches at thieves, from a serial on
abbrev pub outs_from : ℕ → List Bool → List Entry → List Reached
outs_from serial marks own = reached serial own (aborted marks own)

-- the marks of so many own children: whether each serial is one of these
abbrev pub marks_of : ℕ → List ℕ → List Bool
marks_of count serials = map (λ k. list_any (λ s. s == k) serials) (range_with_len 0 count)

-- The serials of some of so many own children, ascending.
pub record AreSerials (count : ℕ) (serials : List ℕ) : Type 0 where
  pub ascending : IsStrictlyIncreasing serials
  pub within : (k : ℕ) → Contains serials k → k < count

-- The serials are those of the own children below the units.
pub record AreBelow (top : WorkUnit → Bool) (own : List Entry) (serials : List ℕ) : Type 0 where
  pub all : (k : ℕ) → IsBelow top own k → Contains serials k
  pub only : (k : ℕ) → Contains serials k → IsBelow top own k

-- ---- parts of it, for the steps of the code

-- The serials that follow the old ones are those of the children of such units.
pub record Adds (IsParent : WorkUnit → Type 0) (own : List Entry) (old new : List ℕ) : Type 0 where
  pub more : List ℕ
  pub is : new ≡ old ++ more
  pub all : (k : ℕ) (unit : WorkUnit) → IsParent unit → parent_in (slice_get own k) ≡ Some unit → Contains more k
  pub only : (k : ℕ) → Contains more k → (unit : WorkUnit) × IsParent unit × (parent_in (slice_get own k) ≡ Some unit)

-- Where the old serials are those of the children of some units, the new ones are all those below these units.
abbrev pub Completes : List Entry → List ℕ → List ℕ → Type 0
Completes own old new = (top : WorkUnit → Bool) → Adds (λ unit. top unit ≡ true) own [] old → AreBelow top own new

-- an own child whose serial stands in the list, from the first place up to the end
abbrev pub IsListed : ℕ → ℕ → List ℕ → WorkUnit → Type 0
IsListed first end serials unit = (i : ℕ) × (first ≤ i) × (i < end) × (unit ≡ Own (get_or serials i 0))

-- what the abort of one child reaches, if it is marked
abbrev pub out_of : Bool → ℕ → Option Entry → List Reached
out_of marked serial None = []
out_of marked serial (Some c) = if marked then reached_one serial c.attempt c.status (abort_if true c).status else []
