use Rattle.audit.proofs.merge.next.Goals as goal

pub returns-then-takes-clause-some : goal.returns-then-takes-clause-some
returns-then-takes-clause-some g c = (c.if-k-books.false, c.takes.ensures.sound c.if-takes.true)
