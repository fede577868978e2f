use Rattle.std.proofs.Common.{refl}
use Rattle.certificate_engine.specs.Certificate.{CertificateSays, checked_said}
use Rattle.search_engines.specs.Output.{status_in}
use Rattle.certificate_engine.proofs.Saying.{output_of}
use Rattle.certificate_engine.proofs.check.write_test.Goals as goal

pub returns-in-Ok-clause-output : goal.returns-in-Ok-clause-output
returns-in-Ok-clause-output g c =
    let problem = c.args.problem.now in
    let checked = c.in-Ok.checked in
    let says : CertificateSays problem (checked_said checked) = record { checked = checked; holds = c.in-Ok.ensures.cover; is = refl } in
    output_of (CertificateSays problem) (checked_said checked) _ _ (status_in c.write_checked.result) says c.write_checked.ensures.output
