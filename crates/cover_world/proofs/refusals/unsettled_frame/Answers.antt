use Rattle.std.proofs.Common.{sym, ◌∙◌}
use Rattle.std.proofs.lemmas.Option.{none-some}
use Rattle.cover_world.proofs.refusals.unsettled_frame.Goals as goal

pub returns-clause-unsettled : goal.returns-clause-unsettled
returns-clause-unsettled c = λ problem view unit none reply out new step. none-some step.1.1.result (sym none ∙ step.1.1.settled)

pub returns-clause-unopened : goal.returns-clause-unopened
returns-clause-unopened c = λ problem view unit unopened reply out new step. unopened step.1.1.entry step.1.1.is step.1.1.split
