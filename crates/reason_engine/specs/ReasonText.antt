-- The lines of a reason: its kind, and a line for each item that counts; those of cliques, and of cases.
use Rattle.std.specs.Prelude.{ℕ, List, [], ◌∷◌, ◌++◌, length, codes, ◌==◌, if◌then◌else◌}
use Rattle.std.specs.Fmt.{decimal}
use Rattle.std.specs.List.{flat_map, range_with_len}
use Rattle.case_reasons.specs.declared.case.Case.{Case}
use Rattle.case_reasons.specs.declared.case.Cases.{Cases}
use Rattle.clash_cliques.specs.declared.clique.Clique.{Clique}
use Rattle.cover_problem.specs.Problem.{Problem}
use Rattle.cover_reasons.specs.Room.{Room, amount_of}
use Rattle.cover_reasons.specs.declared.reason.Reason.{Reason}
use Rattle.cover_reasons.specs.declared.reason.Reason.TheVariants as reasons
use Rattle.dlx_reader.specs.Writing.{name_text}

-- a word, the item's number in the list and its name, with spaces between; nothing where the number is 0
abbrev pub line_text : Problem → List ℕ → List ℕ → ℕ → List ℕ
line_text problem word amounts item =
    if amount_of amounts item == 0 then [] else word ++ 32 ∷ decimal (amount_of amounts item) ++ 32 ∷ name_text problem item ++ 10 ∷ []

-- the lines of a list, in the order of the items
abbrev pub lines_text : Problem → List ℕ → List ℕ → List ℕ
lines_text problem word amounts = flat_map (line_text problem word amounts) (range_with_len 0 (length problem.names))

-- what each item needs, and for how much each item has room
abbrev pub room_text : Problem → Room → List ℕ
room_text problem room = lines_text problem (codes "need") room.needs ++ lines_text problem (codes "room") room.rooms

-- the kind of the reason, and the modulus and what each item weighs, or needs and rooms
abbrev pub kind_text : Problem → Reason → List ℕ
kind_text problem (reasons.Weighed weights) = codes "weights modulo" ++ 32 ∷ decimal weights.modulus ++ codes "\n" ++ lines_text problem (codes "weigh") weights.list
kind_text problem (reasons.TooLittleRoom room) = codes "too little room\n" ++ room_text problem room

-- a space and the number
abbrev pub number_text : ℕ → List ℕ
number_text number = 32 ∷ decimal number

-- the name of a clique and the numbers of its options
abbrev pub clique_text : Clique → List ℕ
clique_text clique = codes "clique " ++ clique.name ++ flat_map number_text clique.options ++ codes "\n"

-- the number of an option of it, and the lines of the reason once that is chosen, by the items of the problem
abbrev pub case_text : Problem → Case → List ℕ
case_text problem case = codes "option" ++ number_text case.option ++ codes "\n" ++ kind_text problem case.reason

-- the name of an item, and the lines of its cases
abbrev pub cases_text : Problem → Cases → List ℕ
cases_text problem cases = codes "options of " ++ name_text problem cases.item ++ codes "\n" ++ flat_map (case_text problem) cases.list.items
