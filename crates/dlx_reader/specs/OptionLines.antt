-- What the lines of options say: each is a list of different items, of which the secondary ones may have colours, and is kept
-- where one of these items is primary.
use Rattle.std.specs.Prelude.{ℕ, List, map, filter, length, slice_index_or, [], ◌∷◌, nat_eq, Bool, not, ◌==◌, ◌&&◌, ◌||◌}
use Rattle.std.specs.List.{list_any, list_all, flat_map}
use Rattle.std.specs.Cmp.Lexicographic.{pointwise}
use Rattle.cover_problem.specs.Problem.{is_name, names_differ}
use Rattle.dlx_reader.specs.Names.{is_among}
use Rattle.dlx_reader.specs.Occurrences.{has_colon, item_part, colour_part}

-- whether a word names an item, and behind a colon a colour, if there is one; a primary item has none
abbrev pub is_occurrence : List (List ℕ) → List (List ℕ) → List ℕ → Bool
is_occurrence names primary_names word =
    is_among names (item_part word) && (not (has_colon word) || (is_name (colour_part word) && not (is_among primary_names (item_part word))))

-- whether the words name different items, each perhaps with a colour
abbrev pub is_option_line : List (List ℕ) → List (List ℕ) → List (List ℕ) → Bool
is_option_line names primary_names words = list_all (is_occurrence names primary_names) words && names_differ (map item_part words)

-- whether one of the words names a primary item
abbrev pub names_primary : List (List ℕ) → List (List ℕ) → Bool
names_primary primary_names words = list_any (is_among primary_names) (map item_part words)

-- the lines that name a primary item
abbrev pub kept_lines : List (List ℕ) → List (List (List ℕ)) → List (List (List ℕ))
kept_lines primary_names lines = filter (names_primary primary_names) lines

-- the names of items
abbrev pub names_of : List (List ℕ) → List ℕ → List (List ℕ)
names_of names items = map (λ item. slice_index_or names item []) items

-- ---- colours

-- the names of a list, each once, where it first stands
abbrev pub firsts_of : List (List ℕ) → List (List ℕ)
firsts_of [] = []
firsts_of (name ∷ names) = name ∷ filter (λ other. not (pointwise nat_eq name other)) (firsts_of names)

-- the colours of lines, each once, in the order in which they first stand
abbrev pub colours_in : List (List (List ℕ)) → List (List ℕ)
colours_in lines = firsts_of (filter (λ colour. not (length colour == 0)) (flat_map (map colour_part) lines))

-- the names of colours: the first colour has the number 1, and no colour, number 0, has no name
abbrev pub names_of_colours : List (List ℕ) → List ℕ → List (List ℕ)
names_of_colours colour_names colours = names_of ([] ∷ colour_names) colours
