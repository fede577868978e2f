use Rattle.search_engines.proofs.check.write_verdict.Goals as goal

pub returns-in-CoveredTwice-clause-output : goal.returns-in-CoveredTwice-clause-output
returns-in-CoveredTwice-clause-output g c = rw (← c.in-CoveredTwice.ensures.verdict) c.write_wrong-in-CoveredTwice.ensures.output

pub returns-in-Uncovered-clause-output : goal.returns-in-Uncovered-clause-output
returns-in-Uncovered-clause-output g c = rw (← c.in-Uncovered.ensures.verdict) c.write_wrong.ensures.output
