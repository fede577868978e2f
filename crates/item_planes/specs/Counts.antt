-- The counts of items, digit by digit.
use Rattle.std.specs.Prelude.{◌≡◌, ℕ, ◌+◌, ◌*◌, ◌<◌, ◌≤◌, ◌↔◌}
use Rattle.std.specs.Int.{bit_at}
use Rattle.item_planes.specs.declared.digits.Digits.{Digits}
use Rattle.item_planes.specs.declared.digits.Digits.TheVariants.{Three, Five, Eight}
use Rattle.item_planes.specs.declared.planes.Planes.{Planes}

-- what the three lowest digits of an item count
abbrev pub low_at : Planes → ℕ → ℕ
low_at p i = bit_at p.ones i + 2 * bit_at p.twos i + 4 * bit_at p.fours i

-- what the next ones of so many digits count, in eights
abbrev pub high_at : Digits → Planes → ℕ → ℕ
high_at Three p i = 0
high_at Five p i = bit_at p.eights i + 2 * bit_at p.sixteens i
high_at Eight p i = bit_at p.eights i + 2 * bit_at p.sixteens i + 4 * bit_at p.thirty_twos i + 8 * bit_at p.sixty_fours i + 16 * bit_at p.one_twenty_eights i

-- what so many of its lowest digits count of an item
abbrev pub part_at : Digits → Planes → ℕ → ℕ
part_at digits p i = low_at p i + 8 * high_at digits p i

-- the count of an item
abbrev pub count_at : Planes → ℕ → ℕ
count_at p i = part_at Eight p i

-- numbers of so many digits are below it
abbrev pub limit_of : Digits → ℕ
limit_of Three = 8
limit_of Five = 32
limit_of Eight = 256

-- of some items those whose digit is least, and this digit
pub record IsLeastDigit (items digits left digit : ℕ) : Type 0 where
  pub binary : digit < 2
  pub some : 1 ≤ left
  pub least : (i : ℕ) → i < 64 → bit_at items i ≡ 1 → digit ≤ bit_at digits i
  pub those : (i : ℕ) → i < 64 → (bit_at left i ≡ 1) ↔ ((bit_at items i ≡ 1) × (bit_at digits i ≡ digit))

-- of some items those whose number, the highest digits of a count, is least
pub record IsNarrowed (items : ℕ) (number : ℕ → ℕ) (left least : ℕ) : Type 0 where
  pub some : 1 ≤ left
  pub bound : (i : ℕ) → i < 64 → bit_at items i ≡ 1 → least ≤ number i
  pub those : (i : ℕ) → i < 64 → (bit_at left i ≡ 1) ↔ ((bit_at items i ≡ 1) × (number i ≡ least))

-- an uncovered item with the least count, the first of those
pub record IsLeast (planes : Planes) (item count : ℕ) : Type 0 where
  pub inside : item < 64
  pub uncovered : bit_at planes.uncovered item ≡ 1
  pub counted : count_at planes item ≡ count
  pub least : (i : ℕ) → i < 64 → bit_at planes.uncovered i ≡ 1 → count ≤ count_at planes i
  pub first : (i : ℕ) → i < 64 → bit_at planes.uncovered i ≡ 1 → count_at planes i ≡ count → item ≤ i
