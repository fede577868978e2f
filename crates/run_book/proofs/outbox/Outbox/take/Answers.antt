use Rattle.run_book.proofs.Order.{drain_finds, it_was_empty, takes_keep_order}
use Rattle.run_book.proofs.outbox.Outbox.take.Goals as goal

pub pop_as-requires-clause-rule : goal.pop_as-requires-clause-rule
pop_as-requires-clause-rule g c = (takes_keep_order _ _ c.drain.invariant.0, drain_finds _ _ c.drain.invariant.0)

pub returns-clause-empty : goal.returns-clause-empty
returns-clause-empty g c = rw (← c.drain.view_is) (it_was_empty _ _ _ c.pop_as.ensures.rule)
