use Rattle.search_tests.proofs.tests.plain.+visit.Given as goal

abbrev pub decreases-visit : goal.decreases-visit
decreases-visit l = l.depth
