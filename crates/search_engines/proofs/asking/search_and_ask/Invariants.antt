use Rattle.search_engines.proofs.asking.search_and_ask.Given as goal

abbrev pub ghosts-search_in_turns : goal.ghosts-search_in_turns
ghosts-search_in_turns g a = record { problem = a.tables.now }
