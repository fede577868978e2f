-- A prefix that is too much for some fuel has children.
use Rattle.std.proofs.Common.{◌≡◌, ℕ, ◌+◌, ◌<◌, ◌≤◌, List, [], ◌∷◌, length, arith}
use Rattle.std.proofs.lemmas.Bool.{ltb-true}
use Rattle.cover_problem.proofs.Unbounded.{visits_children}
use Rattle.cover_problem.specs.Branching.{children}
use Rattle.cover_problem.specs.Problem.{Problem}
use Rattle.cover_problem.specs.Search.{Spent, first, outcome, visits, visits_until}
use Rattle.cover_problem.proofs.Outcomes.{past_spent}

pub spent_has_children : (problem : Problem) (prefix : List ℕ) (fuel : ℕ) → 1 ≤ fuel → outcome problem prefix fuel ≡ Spent → 0 < length (children problem prefix)
spent_has_children problem prefix fuel l e = go (children problem prefix) (visits_children problem prefix)
  where
    more : fuel < visits problem prefix
    more = ltb-true fuel (visits problem prefix) (past_spent _ _ e)

    go : (cs : List (List ℕ)) → visits problem prefix ≡ 1 + visits_until (first problem) (visits problem) cs → 0 < length cs
    go [] h = let m = more in absurd (omega (arith, l, m, h))
    go (c ∷ cs) h = omega arith
