use Rattle.std.proofs.Common.{sym, ◌∙◌, true≢false}
use Rattle.cover_world.proofs.refusals.node_that_is_over.Goals as goal

pub returns : goal.returns
returns c = λ problem view event over reply out new step. true≢false (sym over ∙ step.0)
