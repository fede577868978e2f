use Rattle.solve_tests.proofs.tests.held.answers.Given as goal

abbrev pub ghosts-is_answered : goal.ghosts-is_answered
ghosts-is_answered g a = record { run = record { problem = a.problem.now; nodes = a.settings.now.nodes } }
