-- Seats and what they count.
use Rattle.std.specs.Prelude.{ℕ}
use Rattle.atomic_table.specs.Seated.{TableId}

-- how many seats were given out, and how many receipts all of them count
pub record Seats : Type 0 where
  pub given : ℕ
  pub total : ℕ

-- what names a cell: its table of receipts and its ledger of seats
pub record CellParts : Type 0 where
  pub table : TableId
  pub name : ℕ
