-- What a test of a list of options answers.
use Rattle.std.specs.Prelude.{ℕ, ◌<◌, List, length, Bool, Option, Some, None, find, not, ◌==◌, ◌&&◌, ◌||◌, nat_le, if◌then◌else◌}
use Rattle.std.specs.List.{list_any, list_all, range_with_len}
use Rattle.cover_problem.specs.ExactCover.{uses}
use Rattle.cover_problem.specs.Numbers.{is_in, is_distinct}
use Rattle.cover_problem.specs.Prefix.{are_options}
use Rattle.cover_problem.specs.Problem.{Problem, names_item, colour_of}
use Rattle.cover_problem.specs.declared.verdict.Verdict.{Verdict}
use Rattle.cover_problem.specs.declared.verdict.Verdict.TheVariants as verdicts

-- the first primary item that no option of the list names
abbrev pub first_uncovered : Problem → List ℕ → Option ℕ
first_uncovered problem options = find (λ item. uses problem (is_in options) item == 0) (range_with_len 0 problem.primary)

-- whether each option of the list that names the item gives it this colour
abbrev pub all_give : Problem → List ℕ → ℕ → ℕ → Bool
all_give problem options item colour = list_all (λ o. not (names_item problem o item) || colour_of problem o item == colour) options

-- whether the option gives the item a colour, and each option of the list that names the item gives it the same one
abbrev pub gives_as_all : Problem → List ℕ → ℕ → ℕ → Bool
gives_as_all problem options item o = nat_le 1 (colour_of problem o item) && all_give problem options item (colour_of problem o item)

-- whether the item is secondary, and all options of the list that name it give it one and the same colour
unfoldable pub is_in_one_colour : Problem → List ℕ → ℕ → Bool
is_in_one_colour problem options item = nat_le problem.primary item && list_any (λ o. gives_as_all problem options item o) options

-- whether the list fails to be an exact cover by more than one option that names the item
unfoldable pub is_covered_twice : Problem → List ℕ → ℕ → Bool
is_covered_twice problem options item = nat_le 2 (uses problem (is_in options) item) && not (is_in_one_colour problem options item)

-- the first such item
abbrev pub first_twice : Problem → List ℕ → Option ℕ
first_twice problem options = find (λ item. is_covered_twice problem options item) (range_with_len 0 (length problem.names))

-- an item that is covered twice, or that there is none
abbrev pub twice_or_exact : Option ℕ → Verdict
twice_or_exact (Some item) = verdicts.CoveredTwice item
twice_or_exact None = verdicts.Exact

-- a primary item that is uncovered, or what is said where there is none
abbrev pub uncovered_or : Option ℕ → Verdict → Verdict
uncovered_or (Some item) later = verdicts.Uncovered item
uncovered_or None later = later

-- the first of these that holds: a number of no option, an option twice, an uncovered primary item, an item covered twice; else it is exact
abbrev pub verdict_of : Problem → List ℕ → Verdict
verdict_of problem options =
    if not (are_options problem options)
    then verdicts.NoSuchOption
    else (if not (is_distinct options)
    then verdicts.ChosenTwice
    else uncovered_or (first_uncovered problem options) (twice_or_exact (first_twice problem options)))

-- an item in a verdict is one of the problem
abbrev pub TellsItemOf : Problem → Verdict → Type 0
TellsItemOf problem (verdicts.Uncovered item) = item < length problem.names
TellsItemOf problem (verdicts.CoveredTwice item) = item < length problem.names
TellsItemOf problem verdicts.NoSuchOption = Unit {0}
TellsItemOf problem verdicts.ChosenTwice = Unit {0}
TellsItemOf problem verdicts.Exact = Unit {0}
