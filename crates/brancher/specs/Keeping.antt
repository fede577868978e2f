-- What is true of the states that searches keep, and how far a visit has come that notes how much was left at prefixes.
use Rattle.std.specs.Prelude.{◌≡◌, ℕ, ◌+◌, ◌<◌, ◌≤◌, ◌⊎◌, List, length, Bool, true, false, Option, Some, None, slice_index}
use Rattle.cover_problem.specs.Onward.{live_options_from}
use Rattle.cover_problem.specs.Problem.{Problem}
use Rattle.cover_problem.specs.Search.{first, visits}
use Rattle.choices.specs.Choices.{Choices, IsChild, with_child}
use Rattle.choices.specs.Keys.{IsKey}
use Rattle.barren_states.specs.States.{States, Holds, IsKept}
use Rattle.brancher.specs.Reach.{IsEnded, IsSoFar}

-- the states that the searches of a problem keep, and what was left when the last search came to the prefixes of its way, by their length
pub record Keeping : Type 0 where
  pub states : States
  pub entered : List ℕ

-- a key of the prefix is held, with so many visits
pub record IsKnown (problem : Problem) (prefix : List ℕ) (states : States) (visits : ℕ) : Type 0 where
  pub key : List ℕ
  pub is_key : IsKey problem prefix key
  pub held : Holds states key visits

-- what is held then is what was held, or a key of the prefix with so many visits, too
pub record IsKeptOf (problem : Problem) (prefix : List ℕ) (visits : ℕ) (old new : States) : Type 0 where
  pub key : List ℕ
  pub is : (new ≡ old) ⊎ (IsKey problem prefix key × IsKept old key visits new)

-- Below each prefix whose key is held there is no cover, and its visits are those that are held.
abbrev pub AreBarren : Problem → States → Type 0
AreBarren problem states = (key : List ℕ) (count : ℕ) (prefix : List ℕ) → Holds states key count → IsKey problem prefix key → (first problem prefix ≡ None) × (visits problem prefix ≡ count)

-- what the searches of a problem keep is true, and there is room for a note of each prefix
pub record AreKept (problem : Problem) (kept : Keeping) : Type 0 where
  pub barren : AreBarren problem kept.states
  pub room : problem.primary < length kept.entered

-- the note of the prefixes of a length says that so much was left, unless it is 0, which says nothing
abbrev pub IsNoteOf : List ℕ → ℕ → ℕ → Type 0
IsNoteOf entered place left = 1 ≤ slice_index entered place → slice_index entered place ≡ left

-- A visit of the root that began with so much fuel has come to these choices, with so much left, and the notes of the prefixes before it are true.
pub data IsEntered (root : Choices) (fuel : ℕ) (entered : List ℕ) : Choices → ℕ → Type 0 where
  in_root : IsEntered root fuel entered root fuel
  in_child : (before : Choices) (item option earlier left : ℕ) → IsEntered root fuel entered before earlier
      → IsNoteOf entered (length before.chosen) earlier
      → IsChild before.problem before.chosen item option
      → IsSoFar before.problem before.chosen earlier left (live_options_from before.problem before.chosen item option)
      → IsEntered root fuel entered (with_child before item option) left

-- It has come to these choices, below which there is no cover, and so much is left once they and all below are visited.
pub record IsBarrenIn (root : Choices) (fuel : ℕ) (entered : List ℕ) (now : Choices) (left : ℕ) : Type 0 where
  pub earlier : ℕ
  pub reached : IsEntered root fuel entered now earlier
  pub visits : visits now.problem now.chosen + left ≡ earlier
  pub none : first now.problem now.chosen ≡ None

-- whether it has come to a child, or is past choices without a cover
abbrev pub IsPast : Choices → ℕ → List ℕ → Choices → ℕ → Bool → Type 0
IsPast root fuel entered now left true = IsEntered root fuel entered now left
IsPast root fuel entered now left false = IsBarrenIn root fuel entered now left

-- what it comes to from choices at which more was left: to a child or past them, with what is left then, or to the end of the fuel
abbrev pub IsPassed : Choices → ℕ → List ℕ → Choices → ℕ → Option (ℕ × Bool) → Type 0
IsPassed root fuel entered now before None = fuel < visits root.problem root.chosen
IsPassed root fuel entered now before (Some passed) = (passed.0 < before) × IsPast root fuel entered now passed.0 passed.1

-- whether it goes on at these choices, or has ended
abbrev pub IsTurned : Choices → ℕ → List ℕ → ℕ → Choices → Bool → Type 0
IsTurned root fuel entered left now true = IsEntered root fuel entered now left
IsTurned root fuel entered left now false = IsEnded root fuel now left
