use Rattle.node_core.specs.Requests.{registry}
use Rattle.udp_node.proofs.site_run.start_registry.Given as goal

abbrev pub ghosts-run_core-N-Ledger : goal.ghosts-run_core-N-Ledger
ghosts-run_core-N-Ledger g a = record { name = a.cell_parts.name; parts = 18446744073709551615 }

abbrev pub ghosts-run_core-N-CellName : goal.ghosts-run_core-N-CellName
ghosts-run_core-N-CellName g a = record { table = a.cell_parts.table; site = registry; limit = 0 }
