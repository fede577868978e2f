-- Beginnings of lists.
use Rattle.std.specs.Prelude.{◌≡◌, List, ◌++◌}

-- the list begins with these, in their order
abbrev pub BeginsWith : {A : Type 0} → List A → List A → Type 0
BeginsWith {A} all beginning = (rest : List A) × (all ≡ beginning ++ rest)
