-- Prefixes: options that go together, and the exact covers that extend them (TAOCP 7.2.2.1).
use Rattle.std.specs.Prelude.{◌≡◌, ℕ, ◌<◌, List, [], ◌∷◌, length, Bool, true, not, ◌==◌, ◌&&◌, nat_lt, nat_le}
use Rattle.std.specs.List.Sorted.{IsStrictlyIncreasing}
use Rattle.std.specs.List.{All, list_any, list_all}
use Rattle.cover_problem.specs.ExactCover.{IsExactCover}
use Rattle.cover_problem.specs.Numbers.{is_in}
use Rattle.cover_problem.specs.Problem.{Problem, items_of, names_item, colour_of}

-- whether the two options agree on the item: it is secondary, and both give it one and the same colour
abbrev pub agree : Problem → ℕ → ℕ → ℕ → Bool
agree problem o p item = nat_le problem.primary item && nat_le 1 (colour_of problem o item) && colour_of problem o item == colour_of problem p item

-- whether the two options clash: both name an item on which they do not agree
abbrev pub clash : Problem → ℕ → ℕ → Bool
clash problem o p = list_any (λ item. names_item problem p item && not (agree problem o p item)) (items_of problem o)

-- whether the option is live: it clashes with none of the prefix
abbrev pub is_live : Problem → List ℕ → ℕ → Bool
is_live problem prefix option = list_all (λ p. not (clash problem p option)) prefix

-- whether no two of the options clash
abbrev pub are_apart : Problem → List ℕ → Bool
are_apart problem [] = true
are_apart problem (o ∷ os) = is_live problem os o && are_apart problem os

-- whether these are numbers of options
abbrev pub are_options : Problem → List ℕ → Bool
are_options problem numbers = list_all (λ o. nat_lt o (length problem.options)) numbers

-- the same as a proposition of each
abbrev pub AreOptions : Problem → List ℕ → Type 0
AreOptions problem numbers = All (λ o. o < length problem.options) numbers

-- whether it is a prefix: options of the problem, no two of which clash
abbrev pub is_prefix : Problem → List ℕ → Bool
is_prefix problem prefix = are_options problem prefix && are_apart problem prefix

-- whether an option of the prefix names the item
abbrev pub is_covered : Problem → List ℕ → ℕ → Bool
is_covered problem prefix item = list_any (λ o. names_item problem o item) prefix

-- numbers of options, in file order and none of them twice
abbrev pub InFileOrder : Problem → List ℕ → Type 0
InFileOrder problem numbers = AreOptions problem numbers × IsStrictlyIncreasing numbers

-- ---- what extends a prefix

-- whether each option of the prefix is in the set
abbrev pub extends : (ℕ → Bool) → List ℕ → Bool
extends chosen prefix = list_all chosen prefix

-- No exact cover extends the prefix.
abbrev pub IsBarren : Problem → List ℕ → Type 0
IsBarren problem prefix = (chosen : ℕ → Bool) → IsExactCover problem chosen → extends chosen prefix ≡ true → ⊥

-- The options of the list, as a set, are an exact cover that extends the prefix.
pub record IsCoverOver (problem : Problem) (prefix found : List ℕ) : Type 0 where
  pub cover : IsExactCover problem (is_in found)
  pub over : extends (is_in found) prefix ≡ true
