use Rattle.run_book.proofs.Tickets.{enters_as}
use Rattle.run_book.proofs.register.ticket.Goals as goal

pub another-requires-clause-rule : goal.another-requires-clause-rule
another-requires-clause-rule g c = enters_as _ _ _ c.requires.keeper
