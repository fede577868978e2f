use Rattle.memory_run.proofs.run.run_in_memory.Given as goal

abbrev pub ghosts-run_named : goal.ghosts-run_named
ghosts-run_named g a = record { run = record { problem = a.problem.now; nodes = 1 } }
