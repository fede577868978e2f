use Rattle.audit.proofs.Walking.{least_none, least_some}
use Rattle.audit.proofs.least_left.least_left.Goals as goal

pub returns-clause-some : goal.returns-clause-some
returns-clause-some g c = least_some c.args.books.now c.args.cursors.now c.loop-k.k c.loop-k-test.false c.loop-k.least c.loop-k.invariant

pub returns-clause-none : goal.returns-clause-none
returns-clause-none g c = least_none c.args.books.now c.args.cursors.now c.loop-k.k c.loop-k-test.false c.loop-k.least c.loop-k.invariant
