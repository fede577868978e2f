use Rattle.workbench.proofs.audits.trials.tell_trials.Given as goal

abbrev pub ghosts-tell_run : goal.ghosts-tell_run
ghosts-tell_run g a = record { run = record { problem = a.problem.now; nodes = a.plan.nodes } }
