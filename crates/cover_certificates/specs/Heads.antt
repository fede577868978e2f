-- How certificates begin.
use Rattle.std.specs.Prelude.{ℕ, List, Bool, ◌==◌, ◌||◌, codes}
use Rattle.std.specs.List.{starts_with}

-- whether a text begins as a certificate does, by cases or by clauses
abbrev pub begins_certificate : List ℕ → Bool
begins_certificate text = starts_with (λ x y. x == y) text (codes "none\ncases ") || starts_with (λ x y. x == y) text (codes "none\nclauses ")
