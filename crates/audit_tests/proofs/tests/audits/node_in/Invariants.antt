use Rattle.audit_tests.proofs.tests.audits.node_in.Given as goal

abbrev pub ghosts-node_book-N-Ledger : goal.ghosts-node_book-N-Ledger
ghosts-node_book-N-Ledger g a = record { name = a.cell_parts.name; parts = 18446744073709551615 }

abbrev pub ghosts-node_book-N-CellName : goal.ghosts-node_book-N-CellName
ghosts-node_book-N-CellName g a = record { table = a.cell_parts.table; site = a.core.view.site; limit = 1000 }
