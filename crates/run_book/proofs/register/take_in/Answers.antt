use Rattle.run_book.proofs.Tickets.{takes_back_as}
use Rattle.run_book.proofs.register.take_in.Goals as goal

pub absorb-requires-clause-rule : goal.absorb-requires-clause-rule
absorb-requires-clause-rule g c = takes_back_as _ _ _ _ _ c.requires.keeper c.receipt_token.invariant.2
