use Rattle.run_book.proofs.Tickets.{looks_as}
use Rattle.run_book.proofs.register.Register.look.Goals as goal

pub learn_as-requires-clause-rule : goal.learn_as-requires-clause-rule
learn_as-requires-clause-rule g c = looks_as _ _ c.self.invariant.2
