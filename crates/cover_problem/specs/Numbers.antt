-- Lists of numbers of items or of options.
use Rattle.std.specs.Prelude.{ℕ, List, [], ◌∷◌, Bool, true, not, ◌==◌, ◌&&◌, nat_lt}
use Rattle.std.specs.List.{list_any, list_all}

-- whether the number stands in the list: the set that a list is taken for
abbrev pub is_in : List ℕ → ℕ → Bool
is_in numbers n = list_any (λ m. m == n) numbers

-- whether no number stands in the list twice
abbrev pub is_distinct : List ℕ → Bool
is_distinct [] = true
is_distinct (n ∷ ns) = not (is_in ns n) && is_distinct ns

-- whether each number is below the bound
abbrev pub are_below : ℕ → List ℕ → Bool
are_below bound numbers = list_all (λ n. nat_lt n bound) numbers

-- whether some number is below the bound
abbrev pub some_below : ℕ → List ℕ → Bool
some_below bound numbers = list_any (λ n. nat_lt n bound) numbers
