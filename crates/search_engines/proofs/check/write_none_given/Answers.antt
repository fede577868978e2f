use Rattle.search_engines.proofs.check.write_none_given.Goals as goal

pub returns-in-Cover-clause-output : goal.returns-in-Cover-clause-output
returns-in-Cover-clause-output g c = rw c.in-Cover.is c.write_line.ensures.output
