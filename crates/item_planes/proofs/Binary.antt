-- Sums and differences of one binary digit.
use Rattle.std.proofs.Common.{◌≡◌, ℕ, ◌+◌, ◌*◌, ◌^◌, ◌<◌, refl, ◌↔◌, bit_and, arith, w64}
use Rattle.std.specs.Int.{bit_at, bit_not}
use Rattle.std.specs.Int.Bits.{bit_or, bit_xor}
use Rattle.item_planes.specs.declared.digits.Digits.{Digits}
use Rattle.item_planes.specs.declared.digits.Digits.TheVariants.{Three, Five, Eight}
use Rattle.item_planes.specs.declared.planes.Planes.{Planes}
use Rattle.item_planes.specs.Counts.{count_at, limit_of, part_at}
use Rattle.std.proofs.lemmas.Nat.Bits.{bit_at_and, bit_at_xor, bit_at_not, bit_at_or, bit_at_ones, bit_at-lt, bit_at-zero}

-- each digit is 1, or each is turned
pub digit_full : (i : ℕ) → i < 64 → bit_at 18446744073709551615 i ≡ 1
digit_full i inside = bit_at_ones 64 i inside

pub digit_turned : (digits i : ℕ) → digits < 2 ^ 64 → i < 64 → bit_at (bit_not w64 digits) i + bit_at digits i ≡ 1
digit_turned digits i small inside = omega (arith, bit_at_not w64 digits i small inside, bit_at-lt digits i)

pub digit_lowered : (digits borrow i : ℕ) → bit_at (bit_xor digits borrow) i + bit_at borrow i ≡ bit_at digits i + 2 * bit_at (bit_and borrow (bit_xor digits borrow)) i
digit_lowered digits borrow i = omega (arith, bit_at_xor digits borrow i, bit_at_and borrow (bit_xor digits borrow) i, bit_at-lt digits i, bit_at-lt borrow i)

-- of some items those whose digit is 0
pub zeros_of : (items digits i : ℕ) → digits < 2 ^ 64 → i < 64 → (bit_at (bit_and items (bit_not w64 digits)) i ≡ 1) ↔ ((bit_at items i ≡ 1) × (bit_at digits i ≡ 0))
zeros_of items digits i small inside =
    let both = bit_at_and items (bit_not w64 digits) i in
    let other = bit_at_not w64 digits i small inside in
    ((λ h. (omega (arith, h, both, other, bit_at-lt items i), omega (arith, h, both, other, bit_at-lt items i, bit_at-lt digits i))), (λ h. omega (arith, h.0, h.1, both, other)))

-- where none has the digit 0, each has the digit 1
pub all_ones : (items digits i : ℕ) → digits < 2 ^ 64 → i < 64 → bit_and items (bit_not w64 digits) ≡ 0 → bit_at items i ≡ 1 → bit_at digits i ≡ 1
all_ones items digits i small inside none here =
    let both = bit_at_and items (bit_not w64 digits) i in
    let other = bit_at_not w64 digits i small inside in
    let zero : bit_at (bit_and items (bit_not w64 digits)) i ≡ 0 = rw none (bit_at-zero i) in
    omega (arith, here, both, other, zero, bit_at-lt digits i)

-- where no item has one of two digits, each is 0
pub none_of_both : (one other i : ℕ) → bit_or one other ≡ 0 → bit_at one i + bit_at other i ≡ 0
none_of_both one other i none =
    let zero : bit_at (bit_or one other) i ≡ 0 = rw none (bit_at-zero i) in
    omega (arith, bit_at_or one other i, zero, bit_at-lt one i, bit_at-lt other i)

-- the same of three
pub none_of_three : (one other third i : ℕ) → bit_or (bit_or one other) third ≡ 0 → bit_at one i + bit_at other i + bit_at third i ≡ 0
none_of_three one other third i none =
    let two = none_of_both (bit_or one other) third i none in
    omega (arith, two, bit_at_or one other i, bit_at-lt one i, bit_at-lt other i)

-- the lowest digits of a count with no more digits are all of it
pub part_all : (digits : Digits) (p : Planes) (i : ℕ) → count_at p i < limit_of digits → part_at digits p i ≡ count_at p i
part_all Three p i few = omega (arith, few)
part_all Five p i few = omega (arith, few)
part_all Eight p i few = refl
