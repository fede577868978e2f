-- What is written, and what a fault leaves of it.
use Rattle.std.specs.Prelude.{◌≡◌, ℕ, List, Option, None, Some, Result, Ok, Err, MatchResult, codes}
use Rattle.std.specs.Io.KnownBytes.{Appends, Keeps}
use Rattle.cover_problem.specs.Problem.{Problem}
use Rattle.cover_problem.specs.declared.answer.Answer.{Answer}
use Rattle.cover_problem.specs.declared.answer.Answer.TheVariants.{Cover, NoCover}
use Rattle.dlx_reader.specs.Devices.{AppendsFront}
use Rattle.dlx_reader.specs.Writing.{answer_text}
use Rattle.search_engines.specs.declared.engine.Written.{Written}
use Rattle.search_engines.specs.declared.fault.EngineFault.{EngineFault}
use Rattle.search_engines.specs.declared.fault.EngineFault.TheVariants as faults

-- a text, and the exit status that goes with it
pub record Said : Type 0 where
  pub text : List ℕ
  pub status : ℕ

-- this text with this status
abbrev pub said : List ℕ → ℕ → Said
said text status = record { text = text; status = status }

-- ---- where one thing is to be said

-- all of it was written, and the status is its own
pub record IsSaid (what : Said) (old new : Option (List ℕ)) (status : ℕ) : Type 0 where
  pub written : Appends old new what.text
  pub ends : status ≡ what.status

-- where the device failed a beginning was written, and where memory was refused nothing; no other fault comes of writing
abbrev pub IsStopped : Said → Option (List ℕ) → Option (List ℕ) → EngineFault → Type 0
IsStopped what old new faults.Write = AppendsFront old new what.text
IsStopped what old new faults.Memory = Keeps old new
IsStopped what old new faults.Read = ⊥
IsStopped what old new (faults.File fault) = ⊥
IsStopped what old new (faults.Answer fault) = ⊥

-- all of it was written, or what a fault leaves of it
abbrev pub IsOutput : Said → Option (List ℕ) → Option (List ℕ) → Result ℕ EngineFault → Type 0
IsOutput what old new r = MatchResult r (IsSaid what old new) (IsStopped what old new)

-- the status of what was written
abbrev pub status_in : Result Written EngineFault → Result ℕ EngineFault
status_in (Ok written) = Ok written.status
status_in (Err fault) = Err fault

-- ---- where one of several things may be said

-- One of them was said.
pub record IsSaidOf (may : Said → Type 0) (old new : Option (List ℕ)) (status : ℕ) : Type 0 where
  pub what : Said
  pub may_be : may what
  pub is : IsSaid what old new status

-- A beginning of one of them was written.
pub record IsBegunOf (may : Said → Type 0) (old new : Option (List ℕ)) : Type 0 where
  pub what : Said
  pub may_be : may what
  pub written : AppendsFront old new what.text

-- a fault of an engine whose output is one of what may be said: a beginning of it where a write failed, and nothing where memory ran out
abbrev pub IsStoppedOf : (Said → Type 0) → Option (List ℕ) → Option (List ℕ) → EngineFault → Type 0
IsStoppedOf may old new faults.Write = IsBegunOf may old new
IsStoppedOf may old new faults.Memory = Keeps old new
IsStoppedOf may old new faults.Read = ⊥
IsStoppedOf may old new (faults.File fault) = ⊥
IsStoppedOf may old new (faults.Answer fault) = ⊥

-- one of them was said, or what a fault leaves of one
abbrev pub IsOutputOf : (Said → Type 0) → Option (List ℕ) → Option (List ℕ) → Result ℕ EngineFault → Type 0
IsOutputOf may old new r = MatchResult r (IsSaidOf may old new) (IsStoppedOf may old new)

-- ---- what is said of answers

-- a cover with status 0, or that there is none with 1
abbrev pub answer_said : Problem → Answer → Said
answer_said problem (Cover options) = said (answer_text problem (Cover options)) 0
answer_said problem NoCover = said (answer_text problem NoCover) 1

-- that there is no answer, with status 4
abbrev pub no_answer : Said
no_answer = said (codes "no answer\n") 4

-- the answer that is published, or that there is none yet
abbrev pub published_said : Problem → Option Answer → Said
published_said problem (Some answer) = answer_said problem answer
published_said problem None = no_answer
