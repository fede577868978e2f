-- The options that lines mean, found by their items with their colours: an index of the lowest ones, and for each the next one.
use Rattle.std.specs.Prelude.{◌≡◌, ℕ, ◌+◌, ◌<◌, ◌≤◌, ◌++◌, [], List, length, map, slice_index, slice_index_or, Bool, false, nat_lt, if◌then◌else◌}
use Rattle.std.specs.Option.{unwrap_or}
use Rattle.std.specs.Borrow.{Bor}
use Rattle.std.specs.Cmp.Lexicographic.{slice_cmp}
use Rattle.std.specs.Ordering.{nat_cmp}
use Rattle.std.specs.BTreeMap.{BTreeMap, get_by}
use Rattle.cover_problem.specs.Numbers.{is_in}
use Rattle.cover_problem.specs.Problem.{Problem, items_of, colours_of}
use Rattle.dlx_reader.specs.Names.{item_named}
use Rattle.dlx_reader.specs.Occurrences.{has_colon, item_part, colour_part}

-- the number of the item that a word names, and of no item where none has the name
abbrev pub item_or_none : List (List ℕ) → List ℕ → ℕ
item_or_none names word = unwrap_or (item_named names (item_part word)) (length names)

-- the number of a colour, if there is one: 0 where there is none, and that of no colour where none has the name
abbrev pub colour_numbered : List (List ℕ) → Bool → List ℕ → ℕ
colour_numbered names colon colour = if colon then unwrap_or (item_named names colour) (length names) + 1 else 0

-- the number of the colour that a word has
abbrev pub colour_or_none : List (List ℕ) → List ℕ → ℕ
colour_or_none names word = colour_numbered names (has_colon word) (colour_part word)

-- the key of an option: its items, and behind them their colours
abbrev pub key_of : Problem → ℕ → List ℕ
key_of problem option = items_of problem option ++ colours_of problem option

-- the key that the words of a line give, by the names of items and of colours
abbrev pub key_named : List (List ℕ) → List (List ℕ) → List (List ℕ) → List ℕ
key_named names colour_names words = map (item_or_none names) words ++ map (colour_or_none colour_names) words

-- the keys of options, each at its option's place
pub record AreKeys (problem : Problem) (count : ℕ) (keys : List (List ℕ)) : Type 0 where
  pub long : length keys ≡ count
  pub each : (option : ℕ) → option < count → slice_index_or keys option [] ≡ key_of problem option

-- the options that the lines so far mean, in their order
pub record OptionIndex : Type 0 where
  pub problem : Problem
  pub options : List ℕ

-- an option that has this key, and that no line means
pub record IsUnmeant (problem : Problem) (meant key : List ℕ) (option : ℕ) : Type 0 where
  pub in_range : option < length problem.options
  pub unmeant : is_in meant option ≡ false
  pub has : key_of problem option ≡ key

-- the lowest of these
pub record IsLowestUnmeant (problem : Problem) (meant key : List ℕ) (option : ℕ) : Type 0 where
  pub free : IsUnmeant problem meant key option
  pub lowest : (other : ℕ) → IsUnmeant problem meant key other → option ≤ other

-- ---- the index

-- a map from the keys of options to options
abbrev pub Index : Type 0
Index = BTreeMap (Bor (List ℕ)) ℕ

-- the option that the map has at this key, or the number of options
abbrev pub entry_at : Problem → Index → List ℕ → ℕ
entry_at problem index key =
    unwrap_or (get_by (λ own. slice_cmp nat_cmp key own.now) index) (length problem.options)

-- the lowest option from a start on that has this key, or the number of options
pub record IsLowestFrom (problem : Problem) (start : ℕ) (key : List ℕ) (option : ℕ) : Type 0 where
  pub at_least : start ≤ option
  pub at_most : option ≤ length problem.options
  pub has : option < length problem.options → key_of problem option ≡ key
  pub lowest : (other : ℕ) → start ≤ other → other < length problem.options → key_of problem other ≡ key → option ≤ other

-- At any key the map has the lowest option from a start on.
abbrev pub IsIndexFrom : Problem → ℕ → Index → Type 0
IsIndexFrom problem start index = (key : List ℕ) → IsLowestFrom problem start key (entry_at problem index key)

-- the next option with the key of this one
abbrev pub IsNext : Problem → ℕ → ℕ → Type 0
IsNext problem option next = IsLowestFrom problem (option + 1) (key_of problem option) next

-- each option from a start on has its next one
abbrev pub AreNext : Problem → ℕ → List ℕ → Type 0
AreNext problem start next = (length next ≡ length problem.options) × ((option : ℕ) →
    start ≤ option → option < length problem.options → IsNext problem option (slice_index next option))

-- an option that has this key, below which all such options are meant, and from which on none is
pub record IsEntry (problem : Problem) (meant key : List ℕ) (option : ℕ) : Type 0 where
  pub at_most : option ≤ length problem.options
  pub has : option < length problem.options → key_of problem option ≡ key
  pub below : (other : ℕ) → other < length problem.options → key_of problem other ≡ key → is_in meant other ≡ nat_lt other option

-- At any key the map has the lowest option that no line means.
abbrev pub IsIndex : Problem → List ℕ → Index → Type 0
IsIndex problem meant index = (key : List ℕ) → IsEntry problem meant key (entry_at problem index key)
