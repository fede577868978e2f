-- The small problem with colours is a problem.
use Rattle.std.proofs.Common.{◌≡◌, ℕ, zero, suc, ◌<◌, refl, lit≤, arith}
use Rattle.std.proofs.lemmas.List.Sums.{AllPass-from_list_all}
use Rattle.cover_problem.specs.Examples.{coloured}
use Rattle.cover_problem.specs.Numbers.{are_below, is_distinct, some_below}
use Rattle.cover_problem.specs.Problem.{IsProblem, colour_of, is_name}

plain_primary : (option item : ℕ) → item < 3 → colour_of coloured option item ≡ 0
plain_primary zero zero low = refl
plain_primary zero (suc zero) low = refl
plain_primary zero (suc (suc zero)) low = refl
plain_primary (suc zero) zero low = refl
plain_primary (suc zero) (suc zero) low = refl
plain_primary (suc zero) (suc (suc zero)) low = refl
plain_primary (suc (suc zero)) zero low = refl
plain_primary (suc (suc zero)) (suc zero) low = refl
plain_primary (suc (suc zero)) (suc (suc zero)) low = refl
plain_primary (suc (suc (suc zero))) zero low = refl
plain_primary (suc (suc (suc zero))) (suc zero) low = refl
plain_primary (suc (suc (suc zero))) (suc (suc zero)) low = refl
plain_primary (suc (suc (suc (suc zero)))) zero low = refl
plain_primary (suc (suc (suc (suc zero)))) (suc zero) low = refl
plain_primary (suc (suc (suc (suc zero)))) (suc (suc zero)) low = refl
plain_primary (suc (suc (suc (suc (suc o))))) zero low = refl
plain_primary (suc (suc (suc (suc (suc o))))) (suc zero) low = refl
plain_primary (suc (suc (suc (suc (suc o))))) (suc (suc zero)) low = refl
plain_primary o (suc (suc (suc i))) low = absurd (omega (arith, low))

pub coloured_is_problem : IsProblem coloured
coloured_is_problem = record {
  some_primary = lit≤ tt;
  primary = lit≤ tt;
  names = lit≤ tt;
  options = lit≤ tt;
  occurrences = lit≤ tt;
  each_name = AllPass-from_list_all is_name coloured.names refl;
  distinct_names = refl;
  each_primary = AllPass-from_list_all (some_below 3) coloured.options refl;
  each_named = AllPass-from_list_all (are_below 5) coloured.options refl;
  each_distinct = AllPass-from_list_all is_distinct coloured.options refl;
  each_coloured = refl;
  each_colour = AllPass-from_list_all (are_below 3) coloured.colours refl;
  plain_primary = plain_primary;
  colour_names = lit≤ tt;
  each_colour_name = AllPass-from_list_all is_name coloured.colour_names refl;
  distinct_colour_names = refl;
}
