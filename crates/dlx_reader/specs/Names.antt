-- Names of items, and an index of them.
use Rattle.std.specs.Prelude.{◌≡◌, ℕ, ◌+◌, List, [], ◌∷◌, Option, Some, None, nat_eq, Bool, if◌then◌else◌}
use Rattle.std.specs.Option.{option_map}
use Rattle.std.specs.List.{list_any}
use Rattle.std.specs.Borrow.{Bor}
use Rattle.std.specs.Cmp.Lexicographic.{pointwise, slice_cmp}
use Rattle.std.specs.Ordering.{nat_cmp}
use Rattle.std.specs.BTreeMap.{BTreeMap, get_by}

-- whether a word is one of the names, byte by byte
abbrev pub is_among : List (List ℕ) → List ℕ → Bool
is_among names word = list_any (λ name. pointwise nat_eq name word) names

-- the number of the first of the names that is the word, byte by byte
unfoldable pub item_named : List (List ℕ) → List ℕ → Option ℕ
item_named [] word = None
item_named (name ∷ names) word = if pointwise nat_eq name word then Some 0 else option_map (λ item. item + 1) (item_named names word)

-- a map from names to numbers
abbrev pub Index : Type 0
Index = BTreeMap (Bor (List ℕ)) ℕ

-- At any word the map has the number of the name that it is, if any.
abbrev pub IsIndex : List (List ℕ) → Index → Type 0
IsIndex names index = (word : List ℕ) → get_by (λ name. slice_cmp nat_cmp word name.now) index ≡ item_named names word
