use Rattle.std.proofs.Common.{None, refl}
use Rattle.reason_engine.specs.Why.{WhySays, why_said}
use Rattle.reason_engine.proofs.Saying.{output_of}
use Rattle.reason_engine.proofs.why.write_none_found.Goals as goal

pub returns-clause-output : goal.returns-clause-output
returns-clause-output g c =
    let says : WhySays c.args._problem.now (why_said c.args._problem.now None) = record { cause = None; holds = tt; barren = tt; is = refl } in
    output_of (WhySays c.args._problem.now) (why_said c.args._problem.now None) _ _ c.write_line.result says c.write_line.ensures.output
