-- How the clauses of the items grow, option by option.
use Rattle.std.specs.Prelude.{ℕ, List, [], ◌∷◌, ◌++◌, map, filter, set, slice_index_or, Bool, Option, None, if◌then◌else◌}
use Rattle.std.specs.List.{range_with_len}
use Rattle.std.specs.Option.{option_map}
use Rattle.cover_problem.specs.Problem.{Problem, names_item}
use Rattle.implied_clauses.specs.declared.literal.Literal.{Literal}
use Rattle.implied_clauses.specs.declared.literal.Literal.TheVariants.{Chosen}

-- the clause with the option's literal at the end, if the test holds
abbrev pub with_literal : Bool → ℕ → Option (List Literal) → Option (List Literal)
with_literal named option slot = option_map (λ clause. clause ++ (if named then Chosen option ∷ [] else [])) slot

-- an item's clause with one more option, if that names the item
abbrev pub with_option : Problem → ℕ → ℕ → Option (List Literal) → Option (List Literal)
with_option problem option item slot = with_literal (names_item problem option item) option slot

-- the clauses with the option's literal at the end of that of an item, if it has one
abbrev pub with_option_at : ℕ → ℕ → List (Option (List Literal)) → List (Option (List Literal))
with_option_at option item clauses = set clauses item (option_map (λ clause. clause ++ Chosen option ∷ []) (slice_index_or clauses item None))

-- an item's clause when so many options were looked at
abbrev pub clause_below : Problem → ℕ → ℕ → List Literal
clause_below problem bound item = map (λ option. Chosen option) (filter (λ option. names_item problem option item) (range_with_len 0 bound))
