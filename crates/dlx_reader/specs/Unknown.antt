-- Which name of a text no item has, and what a fault says of it.
use Rattle.std.specs.Prelude.{◌≡◌, ℕ, List, [], ◌∷◌, map, filter, take, not}
use Rattle.std.specs.List.{flat_map}
use Rattle.dlx_reader.specs.Items.{names_in}
use Rattle.dlx_reader.specs.Names.{is_among}
use Rattle.dlx_reader.specs.Occurrences.{item_part}
use Rattle.dlx_reader.specs.declared.fault.ReadFault.{ReadFault}
use Rattle.dlx_reader.specs.declared.fault.ReadFault.TheVariants as faults
use Rattle.dlx_reader.specs.declared.short_name.ShortName.{ShortName}
use Rattle.dlx_reader.specs.declared.text_fault.TextFault.{TextFault}
use Rattle.dlx_reader.specs.declared.text_fault.TextFault.TheVariants.{UnknownItem, Other}

-- the bytes of a short name
abbrev pub short_bytes : ShortName → List ℕ
short_bytes name = take name.len name.bytes

-- ---- names

-- of the names that stand in these words, those that are none of the items' names, in their order
abbrev pub unknown_in : List (List ℕ) → List (List ℕ) → List (List ℕ)
unknown_in names words = filter (λ name. not (is_among names name)) (map item_part words)

-- the same of all words of lines
abbrev pub unknown_among : List (List ℕ) → List (ℕ × List (List ℕ)) → List (List ℕ)
unknown_among names lines = flat_map (λ line. unknown_in names line.1) lines

-- the names in the lines of options that no item has, where these lines say something, the item line first
abbrev pub unknown_of : List (ℕ × List (List ℕ)) → List (List ℕ)
unknown_of [] = []
unknown_of (items ∷ options) = unknown_among (names_in items.1) options

-- It is the first of them.
pub record IsFirstName (names : List (List ℕ)) (name : List ℕ) : Type 0 where
  pub others : List (List ℕ)
  pub first : names ≡ name ∷ others

-- ---- faults

-- the fault without the name
abbrev pub plain : TextFault → ReadFault
plain (UnknownItem unknown) = faults.UnknownItem unknown.line
plain (Other fault) = fault

-- it is no fault that no item has a name
abbrev pub IsOther : ReadFault → Type 0
IsOther fault = (line : ℕ) → fault ≡ faults.UnknownItem line → ⊥

-- A fault that no item has a name comes with the name, of which this is true; and no other fault is one of that kind.
abbrev pub NamesUnknown : (List ℕ → Type 0) → TextFault → Type 0
NamesUnknown is (UnknownItem unknown) = is (short_bytes unknown.name)
NamesUnknown is (Other fault) = IsOther fault
