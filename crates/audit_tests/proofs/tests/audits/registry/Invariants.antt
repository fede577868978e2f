use Rattle.node_core.specs.Requests.{registry}
use Rattle.audit_tests.proofs.tests.audits.registry.Given as goal

abbrev pub ghosts-root_book-N-Ledger : goal.ghosts-root_book-N-Ledger
ghosts-root_book-N-Ledger g a = record { name = a.cell_parts.name; parts = 18446744073709551615 }

abbrev pub ghosts-root_book-N-CellName : goal.ghosts-root_book-N-CellName
ghosts-root_book-N-CellName g a = record { table = a.cell_parts.table; site = registry; limit = 0 }
