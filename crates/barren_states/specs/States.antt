-- What a table of states is seen as, and what it holds.
use Rattle.std.specs.Prelude.{◌≡◌, ℕ, ◌+◌, ◌*◌, ◌<◌, ◌≤◌, List, [], ◌∷◌, ◌++◌, take, drop, ◌⊎◌}

-- how many words a key has, how many slots are in use, for how many there is room at most, and the words of those in use, one behind the other: each is a key and its visits
pub record States : Type 0 where
  pub width : ℕ
  pub slots : ℕ
  pub most : ℕ
  pub words : List ℕ

-- how many bytes so many slots take: 8 for each word of a key and for its visits, and one for its worth
abbrev pub bytes_of : ℕ → States → ℕ
bytes_of slots states = slots * (states.width * 8 + 9)

-- the words of a slot
abbrev pub slot_at : States → ℕ → List ℕ
slot_at states slot = take (states.width + 1) (drop (slot * (states.width + 1)) states.words)

-- a key is found in a slot, with its visits
pub record Holds (states : States) (key : List ℕ) (visits : ℕ) : Type 0 where
  pub slot : ℕ
  pub inside : slot < states.slots
  pub here : slot_at states slot ≡ key ++ visits ∷ []
  pub some : 1 ≤ visits

-- what is found was found before
abbrev pub HoldsNoMore : States → States → Type 0
HoldsNoMore old new = (key : List ℕ) (visits : ℕ) → Holds new key visits → Holds old key visits

-- what is found was found before, or it is this key with these visits
pub record IsKept (old : States) (key : List ℕ) (visits : ℕ) (new : States) : Type 0 where
  pub held : (other : List ℕ) (count : ℕ) → Holds new other count → Holds old other count ⊎ ((other ≡ key) × (count ≡ visits))
