use Rattle.workbench.proofs.tally.sites.tally_run.Given as goal

abbrev pub ghosts-run_named : goal.ghosts-run_named
ghosts-run_named g a = record { run = record { problem = a.problem.now; nodes = a.plan.nodes } }
