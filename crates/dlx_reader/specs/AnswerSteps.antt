-- What a reader of an answer knows on its way.
use Rattle.std.specs.Prelude.{◌≡◌, ◌≢◌, ℕ, List}
use Rattle.cover_problem.specs.Problem.{Problem}
use Rattle.dlx_reader.specs.Answers.{IsHead, IsNoneHead, IsCoverHead, IsFirstUnknown}
use Rattle.dlx_reader.specs.declared.answer_fault.AnswerFault.{AnswerFault}
use Rattle.dlx_reader.specs.declared.answer_fault.AnswerFault.TheVariants.{BadHead, WrongCount, UnknownOption, Memory}
use Rattle.dlx_reader.specs.declared.answer_head.Head.{Head}
use Rattle.dlx_reader.specs.declared.answer_head.Head.TheVariants.{NoCover, Cover}

-- the head that words are
abbrev pub IsHeadOf : List (List ℕ) → Head → Type 0
IsHeadOf words NoCover = IsNoneHead words
IsHeadOf words (Cover count) = IsCoverHead words count

-- how many lines follow a head
abbrev pub lines_after : Head → ℕ
lines_after NoCover = 0
lines_after (Cover count) = count

-- the head that words are, where so many lines follow
abbrev pub IsHeadBefore : List (List ℕ) → ℕ → Head → Type 0
IsHeadBefore words further head = IsHeadOf words head × (lines_after head ≡ further)

-- the faults that come with the first line, where so many lines follow
abbrev pub IsHeadFault : List (List ℕ) → ℕ → AnswerFault → Type 0
IsHeadFault words further BadHead = (count : ℕ) → IsHead words count → ⊥
IsHeadFault words further WrongCount = (count : ℕ) × IsHead words count × (further ≢ count)
IsHeadFault words further (UnknownOption number) = ⊥
IsHeadFault words further Memory = ⊥

-- the faults that come with the options' lines
abbrev pub IsOptionFault : Problem → List (ℕ × List (List ℕ)) → AnswerFault → Type 0
IsOptionFault problem lines BadHead = ⊥
IsOptionFault problem lines WrongCount = ⊥
IsOptionFault problem lines (UnknownOption number) = IsFirstUnknown problem lines number
IsOptionFault problem lines Memory = Unit {0}
