use Rattle.std.proofs.Common.{Some, refl}
use Rattle.reason_engine.specs.Why.{WhySays, why_said}
use Rattle.reason_engine.proofs.Saying.{output_of}
use Rattle.reason_engine.proofs.why.write_found.Goals as goal

pub returns-in-Ok-Some-clause-output : goal.returns-in-Ok-Some-clause-output
returns-in-Ok-Some-clause-output g c =
    let found = Some c.in-Ok-Some.cause in
    let says : WhySays c.args.problem.now (why_said c.args.problem.now found) = record {
      cause = found;
      holds = rw c.in-Ok-Some.field-0-is at c.in-Ok-Some.ensures.cause;
      barren = rw c.in-Ok-Some.field-0-is at c.in-Ok-Some.ensures.barren;
      is = refl;
    } in
    output_of (WhySays c.args.problem.now) (why_said c.args.problem.now found) _ _ c.write_cause.result says c.write_cause.ensures.output
