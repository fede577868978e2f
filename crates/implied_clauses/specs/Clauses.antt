-- Clauses over the options of a problem, and those that each of its exact covers satisfies.
use Rattle.std.specs.Prelude.{◌≡◌, ℕ, List, [], map, set, filter, length, ◌++◌, ◌∷◌, Bool, true, false, not, ◌||◌, ◌==◌, Option, Some, IfSome, if◌then◌else◌}
use Rattle.std.specs.List.{All, list_any, range_with_len}
use Rattle.cover_problem.specs.ExactCover.{IsExactCover}
use Rattle.cover_problem.specs.Problem.{Problem, names_item, option_numbers}
use Rattle.implied_clauses.specs.declared.literal.Literal.{Literal}
use Rattle.implied_clauses.specs.declared.literal.Literal.TheVariants.{Chosen, Left}

-- whether a set of options makes the literal true
abbrev pub is_true : (ℕ → Bool) → Literal → Bool
is_true chosen (Chosen option) = chosen option
is_true chosen (Left option) = not (chosen option)

-- the opposite literal
abbrev pub negated : Literal → Literal
negated (Chosen option) = Left option
negated (Left option) = Chosen option

-- whether a set of options makes a literal of the clause true
abbrev pub satisfies : (ℕ → Bool) → List Literal → Bool
satisfies chosen clause = list_any (is_true chosen) clause

-- Each exact cover satisfies the clause.
abbrev pub IsImplied : Problem → List Literal → Type 0
IsImplied problem clause = (chosen : ℕ → Bool) → IsExactCover problem chosen → satisfies chosen clause ≡ true

-- each clause that stands at a place of the list is implied
abbrev pub AreImplied : Problem → List (Option (List Literal)) → Type 0
AreImplied problem list = All (λ slot. IfSome slot (IsImplied problem)) list

-- that one of the options that name the item is chosen
abbrev pub item_clause : Problem → ℕ → List Literal
item_clause problem item = map (λ option. Chosen option) (filter (λ option. names_item problem option item) (option_numbers problem))

-- the clause of each primary item, at the item's place
abbrev pub item_clauses : Problem → List (Option (List Literal))
item_clauses problem = map (λ item. Some (item_clause problem item)) (range_with_len 0 problem.primary)

-- Of which problem they are, the clauses by their places, none at a place that is free, and whether the empty clause was learned
pub record Clauses : Type 0 where
  pub problem : Problem
  pub list : List (Option (List Literal))
  pub refuted : Bool

-- those that a problem has before any is learned
abbrev pub first_clauses : Problem → Clauses
first_clauses problem = record { problem = problem; list = item_clauses problem; refuted = false }

-- the list with this at the place, which is one of the list's or the next one
abbrev pub put_at : {X : Type 0} → List X → ℕ → X → List X
put_at list place slot = if place == length list then list ++ slot ∷ [] else set list place slot

-- the clauses with one more at a place
abbrev pub learned : Clauses → ℕ → List Literal → Clauses
learned clauses place clause = record { problem = clauses.problem; list = put_at clauses.list place (Some clause); refuted = clauses.refuted || (length clause == 0) }
