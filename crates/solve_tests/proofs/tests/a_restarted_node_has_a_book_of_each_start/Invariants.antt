use Rattle.solve_tests.proofs.tests.a_restarted_node_has_a_book_of_each_start.Given as goal

abbrev pub ghosts-count_books : goal.ghosts-count_books
ghosts-count_books g a = record { run = record { problem = a.problem.now; nodes = a.settings.now.nodes } }
