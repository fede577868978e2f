-- The text of an answer.
use Rattle.std.specs.Prelude.{ℕ, List, [], ◌∷◌, ◌++◌, length, map, codes, slice_index_or, ◌==◌, if◌then◌else◌}
use Rattle.std.specs.Fmt.{decimal}
use Rattle.std.specs.List.{join_with_byte, flat_map, zip}
use Rattle.cover_problem.specs.Problem.{Problem, items_of, colours_of}
use Rattle.cover_problem.specs.Prefix.{InFileOrder}
use Rattle.cover_problem.specs.declared.answer.Answer.{Answer}
use Rattle.cover_problem.specs.declared.answer.Answer.TheVariants.{Cover, NoCover}

-- the name of an item
abbrev pub name_text : Problem → ℕ → List ℕ
name_text problem item = slice_index_or problem.names item []

-- the name of a colour; colours are numbered from 1, and no colour, number 0, has no name
abbrev pub colour_text : Problem → ℕ → List ℕ
colour_text problem colour = slice_index_or ([] ∷ problem.colour_names) colour []

-- what stands behind an item's name: a colon and the name of its colour, or nothing where it has none
abbrev pub colour_behind : Problem → ℕ → List ℕ
colour_behind problem colour = if colour == 0 then [] else 58 ∷ colour_text problem colour

-- the word of an item beside its colour
abbrev pub word_text : Problem → ℕ × ℕ → List ℕ
word_text problem occurrence = name_text problem occurrence.0 ++ colour_behind problem occurrence.1

-- an option's items, each beside its colour, in its order
abbrev pub occurrences_of : Problem → ℕ → List (ℕ × ℕ)
occurrences_of problem option = zip (items_of problem option) (colours_of problem option)

-- the words of an option, in its order
abbrev pub option_words : Problem → ℕ → List (List ℕ)
option_words problem option = map (word_text problem) (occurrences_of problem option)

-- the words of items beside their colours, with one space between
abbrev pub words_text : Problem → List (ℕ × ℕ) → List ℕ
words_text problem occurrences = join_with_byte 32 (map (word_text problem) occurrences)

-- the line of an option: its words in its order, and byte 10
abbrev pub option_text : Problem → ℕ → List ℕ
option_text problem option = words_text problem (occurrences_of problem option) ++ 10 ∷ []

-- the line `cover k` of k options, and the line of each
abbrev pub cover_text : Problem → List ℕ → List ℕ
cover_text problem options = codes "cover " ++ decimal (length options) ++ 10 ∷ flat_map (option_text problem) options

-- the text of an answer
abbrev pub answer_text : Problem → Answer → List ℕ
answer_text problem (Cover options) = cover_text problem options
answer_text problem NoCover = codes "none\n"

-- a cover stands in file order
abbrev pub IsWritable : Problem → Answer → Type 0
IsWritable problem (Cover options) = InFileOrder problem options
IsWritable problem NoCover = Unit {0}

-- ---- a part of it, for the loop that writes it

-- each word after a space
abbrev pub words_after : Problem → List (ℕ × ℕ) → List ℕ
words_after problem occurrences = flat_map (λ occurrence. 32 ∷ word_text problem occurrence) occurrences
