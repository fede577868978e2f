-- What the code keeps: marks of rounds in place of what is assumed, and of a clause's open literals whether it has none, one or more.
use Rattle.std.specs.Prelude.{ℕ, ◌+◌, ◌*◌, List, [], ◌∷◌, Bool, true, false, ◌==◌, Option, Some, None, if◌then◌else◌}
use Rattle.implied_clauses.specs.declared.literal.Literal.{Literal}
use Rattle.implied_clauses.specs.declared.rest.Rest.{Rest}
use Rattle.implied_clauses.specs.declared.rest.Rest.TheVariants.{Falsified, Unit as One, Open}

-- the mark of an option that was assumed chosen, or left, in a round
abbrev pub mark_of : ℕ → Bool → ℕ
mark_of round true = round * 2 + 1
mark_of round false = round * 2

-- what a mark says in a round
abbrev pub assumed_by : ℕ → ℕ → Option Bool
assumed_by round mark = if mark == mark_of round true then Some true else (if mark == mark_of round false then Some false else None)

-- what is left of a clause with these open literals
abbrev pub rest_of : List Literal → Rest
rest_of [] = Falsified
rest_of (literal ∷ []) = One literal
rest_of (literal ∷ other ∷ literals) = Open

-- the same, where there may be no clause
abbrev pub rest_by : Option (List Literal) → Rest
rest_by (Some literals) = rest_of literals
rest_by None = Open
