use Rattle.workbench.proofs.cores.cells.greet_cell.Given as goal

abbrev pub ghosts-greet_at_once-J-Run : goal.ghosts-greet_at_once-J-Run
ghosts-greet_at_once-J-Run g a = record { run = record { problem = a.core.problem; nodes = 1 } }

abbrev pub ghosts-greet_at_once-N-Ledger : goal.ghosts-greet_at_once-N-Ledger
ghosts-greet_at_once-N-Ledger g a = record { name = a.cell_parts.name; parts = 18446744073709551615 }

abbrev pub ghosts-greet_at_once-N-CellName : goal.ghosts-greet_at_once-N-CellName
ghosts-greet_at_once-N-CellName g a = record { table = a.cell_parts.table; site = record { node = 1; incarnation = 1 }; limit = 1 }
