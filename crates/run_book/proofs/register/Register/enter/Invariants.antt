use Rattle.run_book.proofs.register.Register.enter.Given as goal

abbrev pub ghosts-ticket : goal.ghosts-ticket
ghosts-ticket g a = record { entry = a.entry.now }
