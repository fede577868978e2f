-- What `check` says of a problem and the answer that is given to it.
use Rattle.std.specs.Prelude.{◌≡◌, ◌⊎◌, ℕ, List, [], ◌∷◌, ◌++◌, Option, None, Some, codes, true}
use Rattle.cover_problem.specs.Numbers.{is_distinct}
use Rattle.cover_problem.specs.Prefix.{are_options}
use Rattle.cover_problem.specs.Problem.{Problem}
use Rattle.cover_problem.specs.Search.{Outcome, outcome}
use Rattle.cover_problem.specs.Verdict.{verdict_of}
use Rattle.cover_problem.specs.declared.answer.Answer.{Answer}
use Rattle.cover_problem.specs.declared.answer.Answer.TheVariants.{Cover, NoCover}
use Rattle.cover_problem.specs.declared.verdict.Verdict.{Verdict}
use Rattle.cover_problem.specs.declared.verdict.Verdict.TheVariants as verdicts
use Rattle.dlx_reader.specs.Answers.{IsAnswerOf, IsFaultOf}
use Rattle.dlx_reader.specs.Faults.{first_fault}
use Rattle.dlx_reader.specs.Writing.{name_text}
use Rattle.dlx_reader.specs.declared.answer_fault.AnswerFault.{AnswerFault}
use Rattle.search_engines.specs.Alone.{answer_from, whole_outcome}
use Rattle.search_engines.specs.Engines.{IsRefused}
use Rattle.search_engines.specs.Output.{Said, no_answer, said}
use Rattle.search_engines.specs.declared.fault.EngineFault.{EngineFault}
use Rattle.search_engines.specs.declared.fault.EngineFault.TheVariants as faults
use Rattle.search_engines.specs.declared.search_limits.TimeLimit.{TimeLimit}

-- that the answer is right, with status 0
abbrev pub right : Said
right = said (codes "right\n") 0

-- what is wrong with an item, and its name, with status 1
abbrev pub item_said : Problem → List ℕ → ℕ → Said
item_said problem wrong item = said (wrong ++ name_text problem item ++ 10 ∷ []) 1

-- A list that was read has options of the problem alone, each once, so the last two are never said.
abbrev pub verdict_said : Problem → Verdict → Said
verdict_said problem verdicts.Exact = right
verdict_said problem (verdicts.Uncovered item) = item_said problem (codes "wrong: Uncovered ") item
verdict_said problem (verdicts.CoveredTwice item) = item_said problem (codes "wrong: CoveredTwice ") item
verdict_said problem verdicts.NoSuchOption = said [] 1
verdict_said problem verdicts.ChosenTwice = said [] 1

-- what a search that gave this says of the answer that there is no cover
abbrev pub none_by : Option Answer → Said
none_by (Some (Cover options)) = said (codes "wrong: a cover exists\n") 1
none_by (Some NoCover) = right
none_by None = no_answer

-- the same of a search that came to this
abbrev pub none_said : Problem → Outcome → Said
none_said problem came = none_by (answer_from problem came)

-- A cover is tested by counting, and none by the search of the empty prefix.
unfoldable pub check_said : Problem → Answer → ℕ → Said
check_said problem (Cover options) fuel = verdict_said problem (verdict_of problem options)
check_said problem NoCover fuel = none_said problem (outcome problem [] fuel)

-- With so much fuel it says this of the answer that a text gives.
pub record CheckSays (answer : List ℕ) (fuel : ℕ) (problem : Problem) (what : Said) : Type 0 where
  pub given : Answer
  pub answered : IsAnswerOf answer problem given
  pub is : what ≡ check_said problem given fuel

-- That there is none is tested by the whole search; where there is a limit of time, there may be no answer.
abbrev pub NoneSaysWithin : Option ℕ → Option TimeLimit → Problem → Said → Type 0
NoneSaysWithin fuel None problem what = what ≡ none_said problem (whole_outcome problem fuel)
NoneSaysWithin fuel (Some time) problem what = (what ≡ none_said problem (whole_outcome problem fuel)) ⊎ (what ≡ no_answer)

-- A cover is tested by counting, and none so.
abbrev pub MayCheck : Problem → Answer → Option ℕ → Option TimeLimit → Said → Type 0
MayCheck problem (Cover options) fuel time what = what ≡ verdict_said problem (verdict_of problem options)
MayCheck problem NoCover fuel time what = NoneSaysWithin fuel time problem what

-- Within these limits it says this of the answer that a text gives.
pub record CheckSaysWithin (answer : List ℕ) (fuel : Option ℕ) (time : Option TimeLimit) (problem : Problem) (what : Said) : Type 0 where
  pub given : Answer
  pub answered : IsAnswerOf answer problem given
  pub is : MayCheck problem given fuel time what

-- the text gives no answer to the problem, but this first fault
abbrev pub CheckRefuses : List ℕ → Problem → AnswerFault → Type 0
CheckRefuses answer problem fault = IsFaultOf answer problem fault

-- options of the problem, each once: what the options of an answer that was read are
pub record IsListed (problem : Problem) (options : List ℕ) : Type 0 where
  pub within : are_options problem options ≡ true
  pub distinct : is_distinct options ≡ true

-- the same of an answer, which has options if it is a cover
abbrev pub IsListedAnswer : Problem → Answer → Type 0
IsListedAnswer problem (Cover options) = IsListed problem options
IsListedAnswer problem NoCover = Unit {0}

-- ---- faults before anything is written

-- of the problem of a text and the answer that another gives to it, of which the first's come first
abbrev pub IsTextsFault : List ℕ → List ℕ → EngineFault → Type 0
IsTextsFault text given (faults.File fault) = (first_fault text ≡ Some fault)
IsTextsFault text given (faults.Answer fault) = IsRefused (CheckRefuses given) text fault
IsTextsFault text given faults.Memory = Unit {0}
IsTextsFault text given faults.Read = ⊥
IsTextsFault text given faults.Write = ⊥

-- of reading both texts from their sources
abbrev pub IsSourcesFault : List ℕ → List ℕ → EngineFault → Type 0
IsSourcesFault text given (faults.File fault) = (first_fault text ≡ Some fault)
IsSourcesFault text given (faults.Answer fault) = IsRefused (CheckRefuses given) text fault
IsSourcesFault text given faults.Read = Unit {0}
IsSourcesFault text given faults.Memory = Unit {0}
IsSourcesFault text given faults.Write = ⊥
