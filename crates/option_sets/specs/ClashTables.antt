-- Which options each option bars, by the items that it names and the colours that it gives them.
use Rattle.std.specs.Prelude.{◌≡◌, ℕ, ◌*◌, ◌/◌, ◌<◌, ◌≤◌, List, [], length, take, drop, slice_index_or, Bool, not, ◌==◌, ◌&&◌, nat_lt, map, filter}
use Rattle.std.specs.List.{range_with_len}
use Rattle.cover_problem.specs.Prefix.{agree, clash}
use Rattle.cover_problem.specs.Problem.{Problem, IsProblem, items_of, names_item, colour_of}
use Rattle.option_sets.specs.Sets.{AreWords, IsRow, row_has, has, words_of}
use Rattle.option_sets.specs.declared.word.Word.{Word}

-- whether both options name the item, and don't agree on it
abbrev pub clash_at : Problem → ℕ → ℕ → ℕ → Bool
clash_at problem o item x = names_item problem x item && not (agree problem o x item)

-- the words of the options that give an item a colour
pub record IsTint (problem : Problem) (item colour : ℕ) (row : List Word) : Type 0 where
  pub words : AreWords problem row
  pub exact : (x : ℕ) → row_has row x ≡ (names_item problem x item && colour_of problem x item == colour)

-- a tint that an option has at an item
pub record IsTinted (problem : Problem) (tints : List (List Word)) (o item number : ℕ) : Type 0 where
  pub inside : number < length tints
  pub coloured : 1 ≤ colour_of problem o item
  pub tint : IsTint problem item (colour_of problem o item) (slice_index_or tints number [])

-- the number of a tint, or 0 where the option gives the item no colour
pub record HasTint (problem : Problem) (tints : List (List Word)) (o item number : ℕ) : Type 0 where
  pub plain : number ≡ 0 → colour_of problem o item ≡ 0
  pub tinted : 0 < number → IsTinted problem tints o item number

-- the rows of all items, those of all tints, and the tints of each option beside its items
pub record AreClashTables (problem : Problem) (rows tints : List (List Word)) (lists : List (List ℕ)) : Type 0 where
  pub lawful : IsProblem problem
  pub items : length rows ≡ length problem.names
  pub row : (item : ℕ) → item < length problem.names → IsRow problem item (slice_index_or rows item [])
  pub long : length lists ≡ length problem.options
  pub beside : (o : ℕ) → o < length problem.options → length (slice_index_or lists o []) ≡ length (items_of problem o)
  pub each : (o k : ℕ) → o < length problem.options → k < length (items_of problem o)
      → HasTint problem tints o (slice_index_or (items_of problem o) k 0) (slice_index_or (slice_index_or lists o []) k 0)

-- the primary items of an option
abbrev pub primary_of : Problem → ℕ → List ℕ
primary_of problem option = filter (λ i. nat_lt i problem.primary) (items_of problem option)

-- the set that an option leaves of all, by all its words: those with which it doesn't clash
pub record IsKept (problem : Problem) (option : ℕ) (set : List ℕ) : Type 0 where
  pub long : length set ≡ words_of problem
  pub exact : (x : ℕ) → x / 64 < words_of problem → has set x ≡ not (clash problem option x)

-- The set of so many words that stands for an option, where those of all options stand one behind the other.
abbrev pub set_at : ℕ → ℕ → List ℕ → List ℕ
set_at words option sets = take words (drop (option * words) sets)

-- the sets that all options leave, one behind the other
pub record AreAllKept (problem : Problem) (kept : List ℕ) : Type 0 where
  pub long : length kept ≡ length problem.options * words_of problem
  pub each : (option : ℕ) → option < length problem.options → IsKept problem option (set_at (words_of problem) option kept)

-- such sets, or none: the list is empty, or has those of all options
abbrev pub AreKept : Problem → List ℕ → Type 0
AreKept problem kept = 0 < length kept → AreAllKept problem kept

-- what stands beside the tables: how many words a set has, the primary items of each option, and the sets that options leave
pub record AreSets (problem : Problem) (words : ℕ) (named : List (List ℕ)) (kept : List ℕ) : Type 0 where
  pub lawful : IsProblem problem
  pub words_are : words ≡ words_of problem
  pub named_are : named ≡ map (primary_of problem) (range_with_len 0 (length problem.options))
  pub kept_are : AreKept problem kept
