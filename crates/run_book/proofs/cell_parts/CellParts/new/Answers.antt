use Rattle.run_book.proofs.Tickets.{tickets_at_first}
use Rattle.run_book.proofs.cell_parts.CellParts.new.Goals as goal

pub ruled-requires-clause-rule : goal.ruled-requires-clause-rule
ruled-requires-clause-rule c = tickets_at_first
