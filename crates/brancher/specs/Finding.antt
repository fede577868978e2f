-- What a search of a prefix with some fuel came to.
use Rattle.std.specs.Prelude.{ℕ, Bool, List, [], nat_eq}
use Rattle.std.specs.Cmp.Lexicographic.{pointwise}
use Rattle.std.specs.Ordering.{eq_of_both, on}
use Rattle.cover_problem.specs.Search as search

-- the prefix, how many visits the search was allowed, and its outcome
pub record Finding : Type 0 where
  pub prefix : List ℕ
  pub fuel : ℕ
  pub outcome : search.Outcome

-- a finding of these
abbrev pub finding_by : List ℕ → ℕ → search.Outcome → Finding
finding_by prefix fuel outcome = record { prefix = prefix; fuel = fuel; outcome = outcome }

-- what sort of outcome it is
abbrev pub outcome_sort : search.Outcome → ℕ
outcome_sort (search.Covers cover) = 0
outcome_sort search.Barren = 1
outcome_sort search.Spent = 2

-- the cover that an outcome has, or none
abbrev pub outcome_cover : search.Outcome → List ℕ
outcome_cover (search.Covers cover) = cover
outcome_cover _ = []

-- of one sort and with one cover
abbrev pub same_outcome : search.Outcome → search.Outcome → Bool
same_outcome = eq_of_both (on outcome_sort nat_eq) (on outcome_cover (pointwise nat_eq))

-- for one prefix with the same fuel, and with the same outcome
abbrev pub same_finding : Finding → Finding → Bool
same_finding = eq_of_both (on (λ f. f.prefix) (pointwise nat_eq)) (eq_of_both (on (λ f. f.fuel) nat_eq) (on (λ f. f.outcome) same_outcome))
