use Rattle.solve_tests.proofs.tests.starved.a_site_without_memory_is_a_fault.Given as goal

abbrev pub ghosts-is_starved : goal.ghosts-is_starved
ghosts-is_starved g a = record { run = record { problem = a.problem.now; nodes = a.settings.now.nodes } }
