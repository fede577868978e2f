use Rattle.audit_tests.proofs.tests.audits.refused_memory_in_an_audit.Given as goal

abbrev pub ghosts-finds : goal.ghosts-finds
ghosts-finds g a = record { run = record { problem = a.problem.now; nodes = 2 } }
