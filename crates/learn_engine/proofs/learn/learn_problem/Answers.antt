use Rattle.std.proofs.Common.{refl}
use Rattle.learn_engine.specs.Learn.{LearnSays, found_said}
use Rattle.search_engines.specs.Output.{status_in}
use Rattle.learn_engine.proofs.Saying.{output_of}
use Rattle.learn_engine.proofs.learn.learn_problem.Goals as goal

pub returns-in-Ok-clause-output : goal.returns-in-Ok-clause-output
returns-in-Ok-clause-output g c =
    let problem = c.args.problem.now in
    let found = c.in-Ok.found in
    let says : LearnSays problem (found_said problem found) = record { found = found; holds = c.in-Ok.ensures; is = refl } in
    output_of (LearnSays problem) (found_said problem found) _ _ (status_in c.write_found.result) says c.write_found.ensures.output
