use Rattle.std.proofs.Common.{Err, ap, refl}
use Rattle.cover_engines.specs.Solve.{SolveSays}
use Rattle.cover_engines.proofs.Ends.{ends_said, ends_stopped}
use Rattle.cover_engines.proofs.host.Host.solve_read.Goals as goal

pub returns-in-Ok-search : goal.returns-in-Ok-search
returns-in-Ok-search g c = λ text read.
    ends_said (SolveSays c.args.request.now.settings) _ _ _ text _ _ c.args.read.now.problem c.args.read.now.ignored read c.in-Ok-search.status c.in-Ok-search.status c.in-Ok-search.ensures.output refl

pub returns-in-Err-search : goal.returns-in-Err-search
returns-in-Err-search g c = λ text read.
    ends_stopped (SolveSays c.args.request.now.settings) _ _ _ text _ _ c.args.read.now.problem c.args.read.now.ignored read c.in-Err-search.fault c.tell_fault.result c.in-Err-search.ensures.output (λ is. c.in-Err-search.ensures.failed (ap Err is)) c.tell_fault.ensures
