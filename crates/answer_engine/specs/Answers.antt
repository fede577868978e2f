-- What `answer` says of a problem.
use Rattle.std.specs.Prelude.{◌≡◌, Bool, true, false, Option, None, Some, IfSome, ◌++◌}
use Rattle.cover_problem.specs.Problem.{Problem}
use Rattle.cover_problem.specs.declared.answer.Answer.{Answer}
use Rattle.cover_problem.specs.declared.answer.Answer.TheVariants.{Cover, NoCover}
use Rattle.learner.specs.Covers.{IsCoverOf, HasNoCover}
use Rattle.search_engines.specs.Output.{Said, said, answer_said, no_answer}
use Rattle.search_engines.specs.declared.search_limits.TimeLimit.{TimeLimit}
use Rattle.answer_engine.specs.Bases.{RestsOn, basis_text}
use Rattle.answer_engine.specs.declared.basis.Won.{Won}

-- an exact cover in the order of the file, or that there is none
abbrev pub IsRight : Problem → Answer → Type 0
IsRight problem (Cover options) = IsCoverOf problem options
IsRight problem NoCover = HasNoCover problem

-- It is a right answer, and what it rests on is true of the problem.
pub record IsWonOf (problem : Problem) (won : Won) : Type 0 where
  pub right : IsRight problem won.answer
  pub rests : RestsOn problem won.answer won.basis

-- the answer, and behind it what it rests on, if that is asked for
abbrev pub won_said : Bool → Problem → Won → Said
won_said false problem won = answer_said problem won.answer
won_said true problem won = said ((answer_said problem won.answer).text ++ basis_text problem won.basis) (answer_said problem won.answer).status

-- that, or that there is no answer
abbrev pub told_said : Bool → Problem → Option Won → Said
told_said asked problem (Some won) = won_said asked problem won
told_said asked problem None = no_answer

-- It says a right answer and, if that is asked for, what it rests on; or that there is no answer, and that only where the time is limited.
pub record AnswerSays (asked : Bool) (time : Option TimeLimit) (problem : Problem) (what : Said) : Type 0 where
  pub won : Option Won
  pub right : IfSome won (IsWonOf problem)
  pub decides : time ≡ None → won ≡ None → ⊥
  pub is : what ≡ told_said asked problem won
