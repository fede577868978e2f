use Rattle.node_tests.proofs.tests.lone.run_at.Given as goal

abbrev pub ghosts-play-J-Run : goal.ghosts-play-J-Run
ghosts-play-J-Run g a = record { run = record { problem = a.core.problem; nodes = 2 } }

abbrev pub ghosts-play-N-Ledger : goal.ghosts-play-N-Ledger
ghosts-play-N-Ledger g a = record { name = a.cell_parts.name; parts = 18446744073709551615 }

abbrev pub ghosts-play-N-CellName : goal.ghosts-play-N-CellName
ghosts-play-N-CellName g a = record { table = a.cell_parts.table; site = record { node = 1; incarnation = 1 }; limit = a.core.view.ledger.table.limit }
