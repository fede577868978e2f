use Rattle.std.proofs.Common.{subst, IfOk, IfSome}
use Rattle.memory_run.specs.Settled.{IsSettled}
use Rattle.run_book.specs.Sites.{RunName}
use Rattle.memory_run.proofs.run.run_named.Goals as goal

pub returns-in-Ok : goal.returns-in-Ok
returns-in-Ok g c = subst (λ (run : RunName). IfOk c.settled.result (λ found. IfSome found (IsSettled run.problem))) c.requires.run c.settled.ensures
