-- Exact cover problems as values: items with names, the primary ones first, and options as lists of items, in which a secondary
-- item may have a colour (TAOCP 7.2.2.1, exact covering with colors).
use Rattle.std.specs.Prelude.{◌≡◌, ℕ, ◌+◌, ◌<◌, ◌≤◌, List, [], ◌∷◌, length, map, slice_index_or, Bool, true, not, ◌==◌, ◌&&◌, nat_eq, nat_le, IsTrue, if◌then◌else◌}
use Rattle.std.specs.List.{All, list_any, list_all, range_with_len, sum_by}
use Rattle.std.specs.Cmp.Lexicographic.{pointwise}
use Rattle.cover_problem.specs.declared.limits.TheConstants.{MOST_BYTES, MOST_COLOURS, MOST_ITEMS, MOST_NODES, MOST_OPTIONS}
use Rattle.cover_problem.specs.Numbers.{is_in, is_distinct, are_below, some_below}

-- The names of the items, how many of them are primary (these come first), and each option as the list of its items' numbers.
-- For each option the colours that it gives these items, place by place: 0 for none, else a colour's number. Colours are numbered
-- from 1, in the order of their names.
pub record Problem : Type 0 where
  pub names : List (List ℕ)
  pub primary : ℕ
  pub options : List (List ℕ)
  pub colours : List (List ℕ)
  pub colour_names : List (List ℕ)

-- the problem with these fields
abbrev pub problem_by : List (List ℕ) → ℕ → List (List ℕ) → List (List ℕ) → List (List ℕ) → Problem
problem_by names primary options colours colour_names = record { names = names; primary = primary; options = options; colours = colours; colour_names = colour_names }

-- the problem with these items and options, and no colours
abbrev pub uncoloured : List (List ℕ) → ℕ → List (List ℕ) → Problem
uncoloured names primary options = problem_by names primary options (map (λ items. map (λ item. 0) items) options) []

-- the numbers of the options, in file order
abbrev pub option_numbers : Problem → List ℕ
option_numbers problem = range_with_len 0 (length problem.options)

-- the items of an option, in its order
abbrev pub items_of : Problem → ℕ → List ℕ
items_of problem option = slice_index_or problem.options option []

-- whether the option names the item
abbrev pub names_item : Problem → ℕ → ℕ → Bool
names_item problem option item = list_any (λ i. i == item) (items_of problem option)

-- the colours that an option gives its items, in its order
abbrev pub colours_of : Problem → ℕ → List ℕ
colours_of problem option = slice_index_or problem.colours option []

-- the colour at the first place of the item in a list of items, 0 where it has none
abbrev pub colour_beside : List ℕ → List ℕ → ℕ → ℕ
colour_beside (i ∷ is) (c ∷ cs) item = if i == item then c else colour_beside is cs item
colour_beside (i ∷ is) [] item = 0
colour_beside [] colours item = 0

-- the colour that the option gives the item, 0 where it gives none
abbrev pub colour_of : Problem → ℕ → ℕ → ℕ
colour_of problem option item = colour_beside (items_of problem option) (colours_of problem option) item

-- ---- what is true of the problems of the program

-- the bytes that no name of an item or a colour has: 0, white space, the end of a line, the colon and the bar (the general form
-- of the inputs of DLX1 and DLX2)
abbrev pub forbidden : List ℕ
forbidden = 0 ∷ 9 ∷ 10 ∷ 11 ∷ 12 ∷ 13 ∷ 32 ∷ 58 ∷ 124 ∷ []

-- whether the bytes are a name: neither none nor too many, none of them forbidden
abbrev pub is_name : List ℕ → Bool
is_name name = nat_le 1 (length name) && nat_le (length name) MOST_BYTES && list_all (λ byte. not (is_in forbidden byte)) name

-- whether no two of the names are equal, byte by byte
abbrev pub names_differ : List (List ℕ) → Bool
names_differ [] = true
names_differ (name ∷ names) = not (list_any (pointwise nat_eq name) names) && names_differ names

-- It keeps the limits, its items have different names, and each option names a primary item, and no item twice. Each item of an
-- option has a colour or none, a primary one has none, and the colours have different names.
pub record IsProblem (problem : Problem) : Type 0 where
  pub some_primary : 1 ≤ problem.primary
  pub primary : problem.primary ≤ length problem.names
  pub names : length problem.names ≤ MOST_ITEMS
  pub options : length problem.options ≤ MOST_OPTIONS
  pub occurrences : sum_by length problem.options ≤ MOST_NODES
  pub each_name : All (λ name. IsTrue (is_name name)) problem.names
  pub distinct_names : names_differ problem.names ≡ true
  pub each_primary : All (λ items. IsTrue (some_below problem.primary items)) problem.options
  pub each_named : All (λ items. IsTrue (are_below (length problem.names) items)) problem.options
  pub each_distinct : All (λ items. IsTrue (is_distinct items)) problem.options
  pub each_coloured : map length problem.colours ≡ map length problem.options
  pub each_colour : All (λ colours. IsTrue (are_below (length problem.colour_names + 1) colours)) problem.colours
  pub plain_primary : (option item : ℕ) → item < problem.primary → colour_of problem option item ≡ 0
  pub colour_names : length problem.colour_names ≤ MOST_COLOURS
  pub each_colour_name : All (λ name. IsTrue (is_name name)) problem.colour_names
  pub distinct_colour_names : names_differ problem.colour_names ≡ true
