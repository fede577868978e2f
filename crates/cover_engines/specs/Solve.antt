-- What `solve` says of a problem.
use Rattle.std.specs.Prelude.{◌≡◌, ◌⊎◌, ℕ, Bool, true, false, List, Option, Result, Ok, Err}
use Rattle.std.specs.Io.KnownBytes.{Keeps}
use Rattle.cover_problem.specs.Problem.{Problem}
use Rattle.cover_problem.specs.declared.answer.Answer.{Answer}
use Rattle.run_book.specs.Books.{Book}
use Rattle.run_book.specs.Runs.{IsRunEnd}
use Rattle.run_book.specs.Sites.{RunName}
use Rattle.cover_engines.specs.Audit.{AuditSays}
use Rattle.cover_engines.specs.declared.network.NetworkFault.{NetworkFault}
use Rattle.cover_engines.specs.declared.network.NetworkFault.TheVariants.{Memory, NoKey, NoSockets}
use Rattle.search_engines.specs.Engines.{IsEnded, refuses_none}
use Rattle.search_engines.specs.Output.{Said, published_said}
use Rattle.search_engines.specs.Status.{end_status}
use Rattle.search_engines.specs.declared.engine.EngineEnd.{EngineEnd}
use Rattle.search_engines.specs.declared.fault.EngineFault.{EngineFault}
use Rattle.search_engines.specs.declared.fault.EngineFault.TheVariants as faults
use Rattle.run_settings.specs.declared.settings.Settings.{Settings}

-- the run of the problem that has so many nodes as the settings say
abbrev pub run_of : Problem → Settings → RunName
run_of problem settings = record { problem = problem; nodes = settings.nodes }

-- It says what the registry published, as books of the run tell it.
pub record RunSays (run : RunName) (what : Said) : Type 0 where
  pub answer : Option Answer
  pub books : List Book
  pub is_end : IsRunEnd run answer books
  pub is : what ≡ published_said run.problem answer

-- what is said of a run, with an audit of its books or without
abbrev pub says_with : Bool → RunName → Said → Type 0
says_with true run what = AuditSays run what
says_with false run what = RunSays run what

-- what is said of a problem, as the settings ask for an audit or not
abbrev pub SolveSays : Settings → Problem → Said → Type 0
SolveSays settings problem = says_with settings.audit (run_of problem settings)

-- ---- how it ends

-- a fault of reading or of writing comes only where that device failed
abbrev pub IsDeviceFault : Type 0 → Type 0 → Result EngineEnd EngineFault → Type 0
IsDeviceFault source_failed sink_failed (Ok end) = Unit {0}
IsDeviceFault source_failed sink_failed (Err faults.Read) = source_failed
IsDeviceFault source_failed sink_failed (Err faults.Write) = sink_failed
IsDeviceFault source_failed sink_failed (Err faults.Memory) = Unit {0}
IsDeviceFault source_failed sink_failed (Err (faults.File fault)) = Unit {0}
IsDeviceFault source_failed sink_failed (Err (faults.Answer fault)) = Unit {0}

-- It ends at a text as an engine does, and the exit status says how.
pub record EndsAsEngine (may : Problem → Said → Type 0) (source_failed sink_failed : Type 0) (text : List ℕ) (old new : Option (List ℕ)) (status : ℕ) : Type 0 where
  pub end : Result EngineEnd EngineFault
  pub ended : IsEnded may refuses_none text old new end
  pub device : IsDeviceFault source_failed sink_failed end
  pub status_is : status ≡ end_status end

-- the status of a run that has no links
abbrev pub unlinked_status : NetworkFault → ℕ
unlinked_status NoKey = 3
unlinked_status NoSockets = 3
unlinked_status Memory = 5

-- The network has refused the links for this reason: nothing is written.
pub record EndsUnlinked (refuses : NetworkFault → Type 0) (old new : Option (List ℕ)) (status : ℕ) : Type 0 where
  pub fault : NetworkFault
  pub refused : refuses fault
  pub kept : Keeps old new
  pub status_is : status ≡ unlinked_status fault

-- it ends in one of these ways
abbrev pub EndsAs : (Problem → Said → Type 0) → (NetworkFault → Type 0) → Type 0 → Type 0 → List ℕ → Option (List ℕ) → Option (List ℕ) → ℕ → Type 0
EndsAs may refuses source_failed sink_failed text old new status =
    EndsAsEngine may source_failed sink_failed text old new status ⊎ EndsUnlinked refuses old new status
