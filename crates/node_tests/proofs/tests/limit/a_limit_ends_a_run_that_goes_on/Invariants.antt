use Rattle.node_tests.proofs.tests.limit.a_limit_ends_a_run_that_goes_on.Given as goal

abbrev pub ghosts-run : goal.ghosts-run
ghosts-run g a = record { run = record { problem = a.problem.now; nodes = 2 } }
