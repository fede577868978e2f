-- Why a cell doesn't close.
use Rattle.std.specs.Prelude.{◌≡◌, ℕ, ◌<◌, ◌≤◌, List, length, sum}
use Rattle.run_book.specs.declared.fault.Missing.{Missing}
use Rattle.run_book.specs.declared.fault.Missing.TheVariants.{ReceiptsMissing, SeatsMissing}

-- of what is handed in: fewer seats than were given out, or else fewer receipts than the seats count
abbrev pub IsMissing : Missing → List ℕ → ℕ → ℕ → Type 0
IsMissing (SeatsMissing told) seats receipts given = (told ≡ given) × (length seats < given)
IsMissing ReceiptsMissing seats receipts given = (given ≤ length seats) × (receipts < sum seats)
