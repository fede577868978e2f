use Rattle.run_book.proofs.Order.{in_order_at_first}
use Rattle.run_book.proofs.outbox.Outbox.new.Goals as goal

pub ruled-requires-clause-rule : goal.ruled-requires-clause-rule
ruled-requires-clause-rule c = in_order_at_first
