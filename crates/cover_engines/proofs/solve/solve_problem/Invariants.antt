use Rattle.cover_engines.specs.Solve.{run_of}
use Rattle.cover_engines.proofs.solve.solve_problem.Given as goal

abbrev pub ghosts-write_run : goal.ghosts-write_run
ghosts-write_run g a = record { run = run_of a.task.problem.now a.task.settings.now }

abbrev pub ghosts-write_audited_run : goal.ghosts-write_audited_run
ghosts-write_audited_run g a = record { run = run_of a.task.problem.now a.task.settings.now }
