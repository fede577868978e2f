use Rattle.solve_tests.proofs.tests.order.covers_recorded.Given as goal

abbrev pub ghosts-covers : goal.ghosts-covers
ghosts-covers g a = record { run = record { problem = a.problem.now; nodes = a.settings.now.nodes } }
