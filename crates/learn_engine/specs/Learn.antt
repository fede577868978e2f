-- What `learn` says about a problem.
use Rattle.std.specs.Prelude.{◌≡◌}
use Rattle.cover_problem.specs.Problem.{Problem}
use Rattle.cover_problem.specs.declared.answer.Answer.TheVariants as answers
use Rattle.learner.specs.Found.{IsTrueOf}
use Rattle.learner.specs.declared.find.Found.{Found}
use Rattle.learner.specs.declared.find.Found.TheVariants.{Cover, NoCover, Stopped}
use Rattle.search_engines.specs.Output.{Said, answer_said, no_answer}

-- the cover that was found, that there is none, or that there is no answer
abbrev pub found_said : Problem → Found → Said
found_said problem (Cover options) = answer_said problem (answers.Cover options)
found_said problem NoCover = answer_said problem answers.NoCover
found_said problem Stopped = no_answer

-- It says something true that a learner found.
pub record LearnSays (problem : Problem) (what : Said) : Type 0 where
  pub found : Found
  pub holds : IsTrueOf problem found
  pub is : what ≡ found_said problem found
