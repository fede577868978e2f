-- What the options of a list make of an item: whether any names it, and whether those that do give it one colour.
use Rattle.std.specs.Prelude.{ℕ, List, [], ◌∷◌, Bool, true, false, ◌==◌, ◌&&◌, nat_le, if◌then◌else◌}
use Rattle.cover_problem.specs.Problem.{Problem, names_item, colour_of}
use Rattle.cover_problem.specs.declared.naming.Naming.{Naming}
use Rattle.cover_problem.specs.declared.naming.Naming.TheVariants.{Unnamed, United, Split}

-- what it becomes by one more option that names it and gives it this colour, 0 for none
abbrev pub named_by : Naming → ℕ → Naming
named_by Unnamed colour = United colour
named_by (United own) colour = if nat_le 1 colour && own == colour then United own else Split
named_by Split colour = Split

-- what it becomes by one more option
abbrev pub naming_by : Problem → ℕ → ℕ → Naming → Naming
naming_by problem option item naming = if names_item problem option item then named_by naming (colour_of problem option item) else naming

-- what it becomes by the options of a list, in turn
abbrev pub naming_after : Problem → ℕ → Naming → List ℕ → Naming
naming_after problem item naming [] = naming
naming_after problem item naming (o ∷ os) = naming_after problem item (naming_by problem o item naming) os

-- whether no option names it
abbrev pub is_unnamed : Naming → Bool
is_unnamed Unnamed = true
is_unnamed (United colour) = false
is_unnamed Split = false

-- whether several name it without giving it one colour
abbrev pub is_split : Naming → Bool
is_split Unnamed = false
is_split (United colour) = false
is_split Split = true
