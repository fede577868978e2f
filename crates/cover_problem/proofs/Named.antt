-- Each item of an option has a name.
use Rattle.std.proofs.Common.{ℕ, ◌<◌, length, [], nat_lt}
use Rattle.std.specs.List.{All}
use Rattle.std.proofs.lemmas.Bool.{ltb-true}
use Rattle.std.proofs.lemmas.List.Sums.{AllPass-from_list_all}
use Rattle.cover_problem.specs.Problem.{Problem, IsProblem, items_of}

pub option_named : (p : Problem) (o : ℕ) → IsProblem p → o < length p.options → All (λ i. i < length p.names) (items_of p o)
option_named p o problem h = λ k d lt. ltb-true _ _ (AllPass-from_list_all (λ i. nat_lt i (length p.names)) (items_of p o) (problem.each_named o [] h) k d lt)
