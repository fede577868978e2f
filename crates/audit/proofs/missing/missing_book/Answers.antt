use Rattle.audit.proofs.Lacking.{none_lacks, some_lacks}
use Rattle.audit.proofs.missing.missing_book.Goals as goal

pub returns-clause-none : goal.returns-clause-none
returns-clause-none g c = none_lacks c.args.books.now c.least_lacking.result c.least_lacking.ensures

pub returns-clause-some : goal.returns-clause-some
returns-clause-some g c = some_lacks c.args.books.now c.least_lacking.result c.least_lacking.ensures
