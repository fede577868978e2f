-- What an engine reads, what it writes, and what each fault leaves. What the texts mean is the parameter: what may be said of a
-- problem, and which fault refuses the answer that is given to it.
use Rattle.std.specs.Prelude.{◌≡◌, ℕ, List, Option, Some, Result, MatchResult}
use Rattle.std.specs.Io.KnownBytes.{Keeps}
use Rattle.cover_problem.specs.Problem.{Problem}
use Rattle.dlx_reader.specs.Answers.{IsFaultOf}
use Rattle.dlx_reader.specs.Faults.{first_fault}
use Rattle.dlx_reader.specs.ProblemOf.{IsProblemOf}
use Rattle.dlx_reader.specs.declared.answer_fault.AnswerFault.{AnswerFault}
use Rattle.search_engines.specs.Output.{Said, IsBegunOf, IsSaidOf}
use Rattle.search_engines.specs.declared.engine.EngineEnd.{EngineEnd}
use Rattle.search_engines.specs.declared.fault.EngineFault.{EngineFault}
use Rattle.search_engines.specs.declared.fault.EngineFault.TheVariants as faults

-- no answer is given, so none is refused
abbrev pub refuses_none : Problem → AnswerFault → Type 0
refuses_none problem fault = ⊥

-- The text has a problem, and what was written may be said of it.
pub record IsAnswered (may : Problem → Said → Type 0) (text : List ℕ) (old new : Option (List ℕ)) (end : EngineEnd) : Type 0 where
  pub problem : Problem
  pub read : IsProblemOf text problem end.ignored
  pub says : IsSaidOf (may problem) old new end.status

-- The text has a problem, and a beginning of what may be said of it was written.
pub record IsBegun (may : Problem → Said → Type 0) (text : List ℕ) (old new : Option (List ℕ)) : Type 0 where
  pub problem : Problem
  pub ignored : ℕ
  pub read : IsProblemOf text problem ignored
  pub begun : IsBegunOf (may problem) old new

-- The text has a problem, and this fault refuses the answer to it.
pub record IsRefused (refuses : Problem → AnswerFault → Type 0) (text : List ℕ) (fault : AnswerFault) : Type 0 where
  pub problem : Problem
  pub ignored : ℕ
  pub read : IsProblemOf text problem ignored
  pub refused : refuses problem fault

-- where a read fails, a text is refused or memory is, nothing is written; where a write fails, a beginning
abbrev pub IsLeft : (Problem → Said → Type 0) → (Problem → AnswerFault → Type 0) → List ℕ → Option (List ℕ) → Option (List ℕ) → EngineFault → Type 0
IsLeft may refuses text old new faults.Read = Keeps old new
IsLeft may refuses text old new (faults.File fault) = (first_fault text ≡ Some fault) × Keeps old new
IsLeft may refuses text old new (faults.Answer fault) = IsRefused refuses text fault × Keeps old new
IsLeft may refuses text old new faults.Write = IsBegun may text old new
IsLeft may refuses text old new faults.Memory = Keeps old new

-- how an engine ends at a text
abbrev pub IsEnded : (Problem → Said → Type 0) → (Problem → AnswerFault → Type 0) → List ℕ → Option (List ℕ) → Option (List ℕ) → Result EngineEnd EngineFault → Type 0
IsEnded may refuses text old new r = MatchResult r (IsAnswered may text old new) (IsLeft may refuses text old new)

-- ---- faults before anything is written

-- of reading the bytes of a source
abbrev pub IsReadFault : EngineFault → Type 0
IsReadFault faults.Read = Unit {0}
IsReadFault faults.Memory = Unit {0}
IsReadFault faults.Write = ⊥
IsReadFault (faults.File fault) = ⊥
IsReadFault (faults.Answer fault) = ⊥

-- of the problem of a text
abbrev pub IsFileFault : List ℕ → EngineFault → Type 0
IsFileFault text (faults.File fault) = (first_fault text ≡ Some fault)
IsFileFault text faults.Memory = Unit {0}
IsFileFault text faults.Read = ⊥
IsFileFault text faults.Write = ⊥
IsFileFault text (faults.Answer fault) = ⊥

-- of reading a source with this text, and the problem of it
abbrev pub IsSourceFault : List ℕ → EngineFault → Type 0
IsSourceFault text (faults.File fault) = (first_fault text ≡ Some fault)
IsSourceFault text faults.Read = Unit {0}
IsSourceFault text faults.Memory = Unit {0}
IsSourceFault text faults.Write = ⊥
IsSourceFault text (faults.Answer fault) = ⊥

-- of the answer of a text to a problem
abbrev pub IsAnswerFault : List ℕ → Problem → EngineFault → Type 0
IsAnswerFault text problem (faults.Answer fault) = IsFaultOf text problem fault
IsAnswerFault text problem faults.Memory = Unit {0}
IsAnswerFault text problem faults.Read = ⊥
IsAnswerFault text problem faults.Write = ⊥
IsAnswerFault text problem (faults.File fault) = ⊥
