use Rattle.node_core.specs.Requests.{registry}
use Rattle.workbench.proofs.audits.playing.play.Given as goal

abbrev pub ghosts-root_played-N-Ledger : goal.ghosts-root_played-N-Ledger
ghosts-root_played-N-Ledger g a = record { name = a.cell_parts.name; parts = 18446744073709551615 }

abbrev pub ghosts-root_played-N-CellName : goal.ghosts-root_played-N-CellName
ghosts-root_played-N-CellName g a = record { table = a.cell_parts.table; site = registry; limit = 0 }

abbrev pub ghosts-node_played-N-Ledger : goal.ghosts-node_played-N-Ledger
ghosts-node_played-N-Ledger g a = record { name = a.cell_parts.name; parts = 18446744073709551615 }

abbrev pub ghosts-node_played-N-CellName : goal.ghosts-node_played-N-CellName
ghosts-node_played-N-CellName g a = record { table = a.cell_parts.table; site = a.core.view.site; limit = 1000000 }
