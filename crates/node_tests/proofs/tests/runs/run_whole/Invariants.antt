use Rattle.node_tests.proofs.tests.runs.run_whole.Given as goal

abbrev pub ghosts-search : goal.ghosts-search
ghosts-search g a = record { run = record { problem = a.case.problem.now; nodes = a.plan.nodes } }
