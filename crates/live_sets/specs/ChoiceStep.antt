-- One more choice.
use Rattle.std.specs.Prelude.{◌<◌, [], ◌∷◌, ◌++◌, length}
use Rattle.cover_problem.specs.Problem.{Problem}
use Rattle.live_sets.specs.Counting.{IsLive}
use Rattle.live_sets.specs.declared.choice_step.ChoiceStep.{ChoiceStep}

-- there is room for it, the option is one of the problem, and what is live is told before it and after it
pub record IsStep (problem : Problem) (step : ChoiceStep) : Type 0 where
  pub room : length step.chosen.now < problem.primary
  pub option : step.option < length problem.options
  pub before : IsLive problem step.chosen.now step.before.now
  pub live : IsLive problem (step.chosen.now ++ step.option ∷ []) step.live.now
