-- What the item line says: names, of which those before the separator are primary (the general form of DLX1's input).
use Rattle.std.specs.Prelude.{ℕ, List, map, filter, drop, take, length, ◌==◌, not, if◌then◌else◌}
use Rattle.std.specs.List.{position_or_len}
use Rattle.dlx_reader.specs.Content.{begins_with_bar}

-- the name that a word gives: at the separator what follows its `|`, which may be nothing
abbrev pub name_part : List ℕ → List ℕ
name_part word = if begins_with_bar word then drop 1 word else word

-- the names that words of the item line give
abbrev pub names_in : List (List ℕ) → List (List ℕ)
names_in words = filter (λ name. not (length name == 0)) (map name_part words)

-- how many of the words stand before the separator, or how many there are where none stands
abbrev pub primary_in : List (List ℕ) → ℕ
primary_in words = position_or_len begins_with_bar words

-- the names of the primary items
abbrev pub primary_names : List (List ℕ) → List (List ℕ)
primary_names words = take (primary_in words) (names_in words)
