-- What a word of an option says: the name of an item, and perhaps behind a colon that of a colour (TAOCP 7.2.2.1, exact covering
-- with colors; the input of Knuth's program DLX2).
use Rattle.std.specs.Prelude.{ℕ, List, [], ◌∷◌, ◌==◌, Bool, if◌then◌else◌, Option, Some, None}
use Rattle.std.specs.Borrow.{Bor}
use Rattle.std.specs.List.{list_any}

-- whether a colon stands in the word
abbrev pub has_colon : List ℕ → Bool
has_colon word = list_any (λ byte. byte == 58) word

-- the name of the item: what stands before the first colon, or the whole word where none stands
abbrev pub item_part : List ℕ → List ℕ
item_part [] = []
item_part (byte ∷ bytes) = if byte == 58 then [] else byte ∷ item_part bytes

-- the name of the colour: what stands behind the first colon, or nothing where none stands
abbrev pub colour_part : List ℕ → List ℕ
colour_part [] = []
colour_part (byte ∷ bytes) = if byte == 58 then bytes else colour_part bytes

-- the bytes that there are, if any
abbrev pub bytes_in : Option (Bor (List ℕ)) → List ℕ
bytes_in None = []
bytes_in (Some bytes) = bytes.now
