-- Clauses that follow from others by reverse unit propagation along hints (Goldberg and Novikov, "Verification of proofs of
-- unsatisfiability for CNF formulas"; the hints are those of LRAT proofs).
use Rattle.std.specs.Prelude.{ℕ, List, [], ◌∷◌, set, filter, length, replicate, Bool, true, false, not, ◌==◌, ◌&&◌, Option, Some, None, if◌then◌else◌}
use Rattle.std.specs.List.{slice_get}
use Rattle.cover_problem.specs.Prefix.{clash}
use Rattle.cover_problem.specs.Problem.{Problem}
use Rattle.implied_clauses.specs.Clauses.{negated}
use Rattle.implied_clauses.specs.declared.literal.Hint.{Hint}
use Rattle.implied_clauses.specs.declared.literal.Hint.TheVariants.{Clause, Clash}
use Rattle.implied_clauses.specs.declared.literal.Literal.{Literal}
use Rattle.implied_clauses.specs.declared.literal.Literal.TheVariants.{Chosen, Left}

-- What is assumed of each option, by its number: that it is chosen (true), that it is left (false), or nothing. (A partial assignment;
-- nothing is assumed of an option that the problem doesn't have.)

-- nothing is assumed of any option
abbrev pub nothing_assumed : Problem → List (Option Bool)
nothing_assumed problem = replicate (length problem.options) None

-- with this literal assumed to be true, too, whatever was assumed of its option
abbrev pub assume : List (Option Bool) → Literal → List (Option Bool)
assume assumed (Chosen option) = set assumed option (Some true)
assume assumed (Left option) = set assumed option (Some false)

-- whether it is assumed of the option that it is chosen, or, where that is asked, that it is left
abbrev pub says : Option (Option Bool) → Bool → Bool
says (Some (Some true)) is_chosen = is_chosen
says (Some (Some false)) is_chosen = not is_chosen
says (Some None) is_chosen = false
says None is_chosen = false

-- whether the literal is assumed to be false
abbrev pub is_false : List (Option Bool) → Literal → Bool
is_false assumed (Chosen option) = says (slice_get assumed option) false
is_false assumed (Left option) = says (slice_get assumed option) true

-- with each literal of the clause assumed to be false, one after the other
abbrev pub deny : List (Option Bool) → List Literal → List (Option Bool)
deny assumed [] = assumed
deny assumed (literal ∷ clause) = deny (assume assumed (negated literal)) clause

-- the literals of a clause that are not assumed to be false
abbrev pub open_literals : List (Option Bool) → List Literal → List Literal
open_literals assumed clause = filter (λ literal. not (is_false assumed literal)) clause

-- the clause at a place of the list, if there is one
abbrev pub clause_in : Option (Option (List Literal)) → Option (List Literal)
clause_in (Some slot) = slot
clause_in None = None

-- that not both of two options are chosen, where they are different and clash
abbrev pub clash_clause : Problem → ℕ → ℕ → Option (List Literal)
clash_clause problem first second = if not (first == second) && clash problem first second then Some (Left first ∷ Left second ∷ []) else None

-- the clause that a hint names, if there is one
abbrev pub hinted : Problem → List (Option (List Literal)) → Hint → Option (List Literal)
hinted problem list (Clause place) = clause_in (slice_get list place)
hinted problem list (Clash first second) = clash_clause problem first second

-- what is left open of the clause that a hint names
abbrev pub open_by : List (Option Bool) → Option (List Literal) → Option (List Literal)
open_by assumed (Some clause) = Some (open_literals assumed clause)
open_by assumed None = None

-- A clause with nothing open refutes what is assumed. A single open literal is assumed, too. A clause with several, or none at all, is
-- passed over.
abbrev pub refutes_by : Option (List Literal) → (List (Option Bool) → Bool) → List (Option Bool) → Bool
refutes_by (Some []) later assumed = true
refutes_by (Some (literal ∷ [])) later assumed = later (assume assumed literal)
refutes_by (Some (literal ∷ other ∷ literals)) later assumed = later assumed
refutes_by None later assumed = later assumed

-- whether the clauses that the hints name, in their order, refute what is assumed
abbrev pub refutes : Problem → List (Option (List Literal)) → List Hint → List (Option Bool) → Bool
refutes problem list [] assumed = false
refutes problem list (hint ∷ hints) assumed = refutes_by (open_by assumed (hinted problem list hint)) (refutes problem list hints) assumed

-- whether the clause follows along the hints: they refute that each of its literals is false
abbrev pub follows : Problem → List (Option (List Literal)) → List Literal → List Hint → Bool
follows problem list clause hints = refutes problem list hints (deny (nothing_assumed problem) clause)
