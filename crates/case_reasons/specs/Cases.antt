-- Reasons by cases: each exact cover has just one option of a primary item, so there is none where a reason excludes each option of the
-- item once it is chosen.
use Rattle.std.specs.Prelude.{◌≡◌, ℕ, ◌<◌, List, length, map, filter, Bool, true, ◌&&◌, nat_lt, nat_le, if◌then◌else◌}
use Rattle.std.specs.List.{list_all, sum_by}
use Rattle.cover_problem.specs.declared.limits.TheConstants.{MOST_NODES}
use Rattle.cover_problem.specs.Prefix.{clash}
use Rattle.cover_problem.specs.Problem.{Problem, problem_by, option_numbers, items_of, colours_of, names_item}
use Rattle.cover_reasons.specs.Reasons.{holds_of}
use Rattle.case_reasons.specs.declared.case.Case.{Case}
use Rattle.case_reasons.specs.declared.case.Cases.{Cases}

-- the option that stands for another one once an option is chosen: the chosen one, if they clash, since no cover has both
abbrev pub stand_in : Problem → ℕ → ℕ → ℕ
stand_in problem chosen option = if clash problem chosen option then chosen else option

-- the items of that one, and its colours
abbrev pub items_after : Problem → ℕ → ℕ → List ℕ
items_after problem chosen option = items_of problem (stand_in problem chosen option)

abbrev pub colours_after : Problem → ℕ → ℕ → List ℕ
colours_after problem chosen option = colours_of problem (stand_in problem chosen option)

-- the problem once an option is chosen: each option that clashes with it is a copy of it
abbrev pub after_choice : Problem → ℕ → Problem
after_choice problem chosen =
    problem_by
    problem.names
    problem.primary
    (map (items_after problem chosen) (option_numbers problem))
    (map (colours_after problem chosen) (option_numbers problem))
    problem.colour_names

-- whether it keeps the limit of all items of options
abbrev pub has_room_after : Problem → ℕ → Bool
has_room_after problem chosen = nat_le (sum_by length (map (items_after problem chosen) (option_numbers problem))) MOST_NODES

-- whether it is a case: an option, and a reason of the problem once this is chosen
abbrev pub is_case : Problem → Case → Bool
is_case problem case =
    nat_lt case.option (length problem.options)
    && has_room_after problem case.option
    && holds_of (after_choice problem case.option) case.reason

-- the options that name an item, in file order
abbrev pub options_with : Problem → ℕ → List ℕ
options_with problem item = filter (λ option. names_item problem option item) (option_numbers problem)

-- They are the cases of a primary item: one for each option that names it.
pub record AreCases (problem : Problem) (cases : Cases) : Type 0 where
  pub primary : cases.item < problem.primary
  pub each : map (λ case. case.option) cases.list.items ≡ options_with problem cases.item
  pub hold : list_all (is_case problem) cases.list.items ≡ true
