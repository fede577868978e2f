-- Three small problems, for laws by computation.
use Rattle.std.specs.Prelude.{[], ◌∷◌}
use Rattle.cover_problem.specs.Problem.{Problem, problem_by, uncoloured}

-- items a to g; options ce, adg, bcf, adf, bg, deg
abbrev pub small : Problem
small =
    uncoloured
    ((97 ∷ []) ∷ (98 ∷ []) ∷ (99 ∷ []) ∷ (100 ∷ []) ∷ (101 ∷ []) ∷ (102 ∷ []) ∷ (103 ∷ []) ∷ [])
    7
    ((2 ∷ 4 ∷ []) ∷ (0 ∷ 3 ∷ 6 ∷ []) ∷ (1 ∷ 2 ∷ 5 ∷ []) ∷ (0 ∷ 3 ∷ 5 ∷ []) ∷ (1 ∷ 6 ∷ []) ∷ (3 ∷ 4 ∷ 6 ∷ []) ∷ [])

-- one primary item, and no option
abbrev pub bare : Problem
bare = uncoloured ((97 ∷ []) ∷ []) 1 []

-- items p, q, r, and x, y secondary; options p q x y:A, p r x:A y, p x:B, q x:A, r y:B
abbrev pub coloured : Problem
coloured =
    problem_by
    ((112 ∷ []) ∷ (113 ∷ []) ∷ (114 ∷ []) ∷ (120 ∷ []) ∷ (121 ∷ []) ∷ [])
    3
    ((0 ∷ 1 ∷ 3 ∷ 4 ∷ []) ∷ (0 ∷ 2 ∷ 3 ∷ 4 ∷ []) ∷ (0 ∷ 3 ∷ []) ∷ (1 ∷ 3 ∷ []) ∷ (2 ∷ 4 ∷ []) ∷ [])
    ((0 ∷ 0 ∷ 0 ∷ 1 ∷ []) ∷ (0 ∷ 0 ∷ 1 ∷ 0 ∷ []) ∷ (0 ∷ 2 ∷ []) ∷ (0 ∷ 1 ∷ []) ∷ (0 ∷ 2 ∷ []) ∷ [])
    ((65 ∷ []) ∷ (66 ∷ []) ∷ [])
