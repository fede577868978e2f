-- Items that are marked by the colours that options give them.
use Rattle.std.specs.Prelude.{ℕ, List, Bool, true, ◌==◌, ◌&&◌, nat_le, Option, Some, None, slice_index_or, if◌then◌else◌}
use Rattle.std.specs.List.{list_all}
use Rattle.cover_problem.specs.Problem.{Problem, items_of, names_item, colour_of}

-- whether an item with this mark, if any, may get this colour, 0 for none
abbrev pub admits : Option ℕ → ℕ → Bool
admits None colour = true
admits (Some own) colour = nat_le 1 colour && own == colour

-- whether each item of the option may get the colour that the option gives it
abbrev pub fits : Problem → List (Option ℕ) → ℕ → Bool
fits problem marks option = list_all (λ item. admits (slice_index_or marks item None) (colour_of problem option item)) (items_of problem option)

-- the mark of an item once the option marked its items, where it was this before
abbrev pub marked_by : Problem → ℕ → ℕ → Option ℕ → Option ℕ
marked_by problem option item mark = if names_item problem option item then Some (colour_of problem option item) else mark
