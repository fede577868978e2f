-- What is said of an answer's text: it is read again.
use Rattle.std.specs.Prelude.{◌≡◌, ℕ, List, map}
use Rattle.cover_problem.specs.Problem.{Problem}
use Rattle.cover_problem.specs.declared.answer.Answer.TheVariants.{Cover}
use Rattle.dlx_reader.specs.Answers.{IsAnswerOf}
use Rattle.dlx_reader.specs.Writing.{occurrences_of}

-- a text is that of a cover by the same lists of items with their colours, in the same order, if perhaps by equal options
pub record GivesCover (text : List ℕ) (problem : Problem) (options : List ℕ) : Type 0 where
  pub read : List ℕ
  pub answer : IsAnswerOf text problem (Cover read)
  pub same : map (occurrences_of problem) read ≡ map (occurrences_of problem) options
