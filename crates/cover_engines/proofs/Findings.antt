-- An audited answer is written as one of those that may be said.
use Rattle.std.proofs.Common.{◌≡◌, ◌≢◌, ℕ, List, Option, Result, Ok, Err, refl}
use Rattle.cover_problem.specs.declared.answer.Answer.{Answer}
use Rattle.run_book.specs.Books.{Book}
use Rattle.run_book.specs.Runs.{IsRunEnd}
use Rattle.run_book.specs.Sites.{RunName}
use Rattle.audit.specs.declared.auditing.Clean.{Clean}
use Rattle.audit.specs.declared.auditing.Unclean.{Unclean}
use Rattle.audit.specs.declared.auditing.Unclean.TheVariants as unclean
use Rattle.cover_engines.specs.Audit.{audited_said, AuditSays, IsFound}
use Rattle.search_engines.specs.Output.{IsOutput, IsOutputOf}
use Rattle.search_engines.specs.declared.fault.EngineFault.{EngineFault}
use Rattle.search_engines.specs.declared.fault.EngineFault.TheVariants as faults

module _ (run : RunName) (answer : Option Answer) (books : List Book) (found : Result Clean Unclean) (old new : Option (List ℕ)) where
  -- where memory lasted, it may be said
  may_be : IsRunEnd run answer books → (found ≢ Err unclean.Memory → IsFound run answer books found) → found ≢ Err unclean.Memory
      → AuditSays run (audited_said run.problem answer found)
  may_be end is ended = record { answer = answer; books = books; is_end = end; found = found; is_found = is ended; is = refl }

  pub audited_output : (r : Result ℕ EngineFault) → IsRunEnd run answer books → (found ≢ Err unclean.Memory → IsFound run answer books found)
      → (found ≡ Err unclean.Memory → r ≡ Err faults.Memory) → IsOutput (audited_said run.problem answer found) old new r → IsOutputOf (AuditSays run) old new r
  audited_output (Ok status) end is starved written =
      record { what = audited_said run.problem answer found; may_be = may_be end is (λ m. let e = starved m in absurd (cc)); is = written }
  audited_output (Err faults.Write) end is starved begun =
      record { what = audited_said run.problem answer found; may_be = may_be end is (λ m. let e = starved m in absurd (cc)); written = begun }
  audited_output (Err faults.Memory) end is starved kept = kept
  audited_output (Err faults.Read) end is starved never = never
  audited_output (Err (faults.File fault)) end is starved never = never
  audited_output (Err (faults.Answer fault)) end is starved never = never
