-- The problem of a text: the general form of the inputs of Knuth's programs DLX1 and DLX2, with names of at most 32 bytes,
-- secondary items behind a separator, which may have colours in options, comments, and options without a primary item ignored.
use Rattle.std.specs.Prelude.{◌≡◌, ℕ, ◌≤◌, List, [], map, drop, slice_index_or, count_by, true, not}
use Rattle.std.specs.List.{list_all}
use Rattle.cover_problem.specs.Problem.{Problem, IsProblem}
use Rattle.dlx_reader.specs.Content.{begins_with_bar, content_of}
use Rattle.dlx_reader.specs.Items.{names_in, primary_in, primary_names}
use Rattle.dlx_reader.specs.Occurrences.{item_part, colour_part}
use Rattle.dlx_reader.specs.OptionLines.{is_option_line, names_primary, kept_lines, names_of, colours_in, names_of_colours}

-- An item line with these words, and lines of options with those. The item line gives the names, divided by at most one
-- separator; each option's line is a list of different items, of which the secondary ones may have colours; the lines that name
-- a primary item are the options, in order, and the others are ignored. Colours are numbered as they first stand in options. Of
-- every problem it is true that the names are lawful and different, that at least one is primary, and that the limits hold.
pub record IsProblemIn (items : List (List ℕ)) (lines : List (List (List ℕ))) (problem : Problem) (ignored : ℕ) : Type 0 where
  pub lawful : IsProblem problem
  pub names : problem.names ≡ names_in items
  pub separator : count_by begins_with_bar items ≤ 1
  pub primary : problem.primary ≡ primary_in items
  pub each_line : list_all (is_option_line problem.names (primary_names items)) lines ≡ true
  pub options : map (names_of problem.names) problem.options ≡ map (map item_part) (kept_lines (primary_names items) lines)
  pub colours : map (names_of_colours problem.colour_names) problem.colours ≡ map (map colour_part) (kept_lines (primary_names items) lines)
  pub colour_names : problem.colour_names ≡ colours_in (kept_lines (primary_names items) lines)
  pub others : ignored ≡ count_by (λ words. not (names_primary (primary_names items) words)) lines

-- the words of the item line, the first line that says something; none where there is no such line
abbrev pub item_words : List ℕ → List (List ℕ)
item_words text = (slice_index_or (content_of text) 0 (0, [])).1

-- the words of the lines of options, all later lines that say something
abbrev pub option_lines : List ℕ → List (List (List ℕ))
option_lines text = map (λ line. line.1) (drop 1 (content_of text))

-- the text has this problem, and so many ignored options
abbrev pub IsProblemOf : List ℕ → Problem → ℕ → Type 0
IsProblemOf text problem ignored = IsProblemIn (item_words text) (option_lines text) problem ignored

-- the text has no problem
abbrev pub HasNoProblem : List ℕ → Type 0
HasNoProblem text = (problem : Problem) (ignored : ℕ) → IsProblemOf text problem ignored → ⊥
