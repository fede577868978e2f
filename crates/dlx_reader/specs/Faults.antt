-- The first fault of a text that has no problem: the first test that holds, of all tests of the text in reading order.
use Rattle.std.specs.Prelude.{ℕ, ◌+◌, List, [], ◌∷◌, ◌++◌, length, map, Option, Some, None, nat_lt, ◌==◌, ◌||◌, ◌&&◌, Bool, true, not, if◌then◌else◌}
use Rattle.std.specs.List.{list_any, sum_by, flat_map}
use Rattle.cover_problem.specs.declared.limits.TheConstants.{MOST_BYTES, MOST_COLOURS, MOST_ITEMS, MOST_NODES, MOST_OPTIONS}
use Rattle.dlx_reader.specs.Content.{begins_with_bar, content_of}
use Rattle.dlx_reader.specs.Items.{name_part, names_in, primary_names}
use Rattle.dlx_reader.specs.Names.{is_among}
use Rattle.dlx_reader.specs.Occurrences.{has_colon, item_part, colour_part}
use Rattle.dlx_reader.specs.OptionLines.{kept_lines, colours_in}
use Rattle.dlx_reader.specs.declared.fault.ReadFault.{ReadFault}
use Rattle.dlx_reader.specs.declared.fault.ReadFault.TheVariants as faults

-- the fault of the first test that holds, of tests each with its fault
abbrev pub first_of : List (Bool × ReadFault) → Option ReadFault
first_of [] = None
first_of (test ∷ tests) = if test.0 then Some test.1 else first_of tests

-- each element of a list, beside the elements before it
abbrev pub placed : {X : Type 0} → List X → List (List X × X)
placed [] = []
placed (x ∷ xs) = ([], x) ∷ map (λ place. (x ∷ place.0, place.1)) (placed xs)

-- ---- within a word, in the order of the faults' numbers

-- whether the byte is in no name though it is no white space: 0, the colon and the bar
abbrev pub is_illegal : ℕ → Bool
is_illegal byte = byte == 0 || byte == 58 || byte == 124

-- the tests that each name of the item line has to pass
abbrev pub name_tests : ℕ → List ℕ → List (Bool × ReadFault)
name_tests line name = (list_any is_illegal name, faults.IllegalByte line) ∷ (nat_lt MOST_BYTES (length name), faults.NameTooLong line) ∷ []

-- the tests of a word of the item line, where these names and perhaps the separator stand before it
abbrev pub item_tests : ℕ → List (List ℕ) → Bool → List ℕ → List (Bool × ReadFault)
item_tests line names divided word =
    name_tests line (name_part word)
    ++ (is_among names (name_part word), faults.DuplicateItem line)
    ∷ (divided && begins_with_bar word, faults.SecondBar line)
    ∷ (nat_lt MOST_ITEMS (length names + length (names_in (word ∷ []))), faults.TooManyItems line)
    ∷ []

-- whether nothing stands before a colon or behind it, or too many bytes behind it
abbrev pub is_bad_colour : Bool → List ℕ → List ℕ → Bool
is_bad_colour colon name colour = colon && (length name == 0 || length colour == 0 || nat_lt MOST_BYTES (length colour))

-- the tests of the parts of an option's word: whether it has a colon, and what stands before it and behind it
abbrev pub part_tests : ℕ → Bool → List ℕ → List ℕ → List (Bool × ReadFault)
part_tests line colon name colour =
    (list_any is_illegal name || list_any is_illegal colour, faults.IllegalByte line)
    ∷ (nat_lt MOST_BYTES (length name), faults.NameTooLong line)
    ∷ (is_bad_colour colon name colour, faults.BadColour line)
    ∷ []

-- the tests of a word of an option, for these names of items and of primary ones, where these words stand before it
abbrev pub option_tests : ℕ → List (List ℕ) → List (List ℕ) → List (List ℕ) → List ℕ → List (Bool × ReadFault)
option_tests line names primary before word =
    part_tests line (has_colon word) (item_part word) (colour_part word)
    ++ (not (is_among names (item_part word)), faults.UnknownItem line)
    ∷ (is_among (map item_part before) (item_part word), faults.DuplicateInOption line)
    ∷ (has_colon word && is_among primary (item_part word), faults.ColourOnPrimary line)
    ∷ []

-- ---- within a line, and at its end

-- the tests of the item line
abbrev pub item_line_tests : ℕ × List (List ℕ) → List (Bool × ReadFault)
item_line_tests line = flat_map (λ place. item_tests line.0 (names_in place.0) (list_any begins_with_bar place.0) place.1) (placed line.1)

-- the tests of the limits, at the end of a line up to which these lines are kept; a line that is ignored adds none
abbrev pub limit_tests : ℕ → List (List (List ℕ)) → List (Bool × ReadFault)
limit_tests line kept =
    (nat_lt MOST_OPTIONS (length kept), faults.TooManyOptions line)
    ∷ (nat_lt MOST_NODES (sum_by length kept), faults.TooManyNodes line)
    ∷ (nat_lt MOST_COLOURS (length (colours_in kept)), faults.TooManyColours line)
    ∷ []

-- the tests of an option's line, where the item line has these words and these lines of options stand before it
abbrev pub option_line_tests : List (List ℕ) → List (ℕ × List (List ℕ)) → ℕ × List (List ℕ) → List (Bool × ReadFault)
option_line_tests items before line =
    flat_map (λ place. option_tests line.0 (names_in items) (primary_names items) place.0 place.1) (placed line.1)
    ++ limit_tests line.0 (kept_lines (primary_names items) (map (λ l. l.1) (before ++ line ∷ [])))

-- ---- the text

-- all tests of lines that say something, the item line first
abbrev pub tests_of : List (ℕ × List (List ℕ)) → List (Bool × ReadFault)
tests_of [] = (true, faults.NoItems) ∷ []
tests_of (items ∷ options) = item_line_tests items ++ flat_map (λ place. option_line_tests items.1 place.0 place.1) (placed options)

-- the first fault of a text, if it has one
abbrev pub first_fault : List ℕ → Option ReadFault
first_fault text = first_of (tests_of (content_of text))
