use Rattle.crossbeam_queue.specs.Passes.{view}
use Rattle.run_book.proofs.Order.{full_where_refused, passes_find, puts_keep_order}
use Rattle.run_book.proofs.outbox.Outbox.put.Goals as goal

pub push_as-requires-clause-rule : goal.push_as-requires-clause-rule
push_as-requires-clause-rule g c = (puts_keep_order _ _ _ _, passes_find _ _)

pub returns-clause-full : goal.returns-clause-full
returns-clause-full g c =
    rw (← c.pass.view_is) (full_where_refused _ (view c.pass.inside.inner) _ _ _ _ c.self.invariant c.push_as.ensures.rule)
