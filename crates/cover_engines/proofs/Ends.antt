-- How `solve` ends at a text, by what came of its parts.
use Rattle.std.proofs.Common.{◌≡◌, ◌⊎◌, ℕ, Bool, true, false, List, Option, None, Result, Ok, Err, refl, inl, inr}
use Rattle.std.proofs.KnownBytes.{Keeps-refl}
use Rattle.cover_problem.specs.Problem.{Problem}
use Rattle.dlx_reader.specs.ProblemOf.{IsProblemOf}
use Rattle.run_book.specs.Sites.{RunName}
use Rattle.cover_engines.specs.Audit.{AuditSays}
use Rattle.cover_engines.specs.Solve.{unlinked_status, EndsAs, IsDeviceFault, RunSays, says_with}
use Rattle.cover_engines.specs.declared.network.NetworkFault.{NetworkFault}
use Rattle.search_engines.specs.Engines.{IsLeft, IsSourceFault, refuses_none}
use Rattle.search_engines.specs.Output.{IsOutputOf, IsSaidOf, IsStoppedOf, Said}
use Rattle.search_engines.specs.Status.{fault_status}
use Rattle.search_engines.specs.declared.engine.EngineEnd.{EngineEnd}
use Rattle.search_engines.specs.declared.fault.EngineFault.{EngineFault}
use Rattle.search_engines.specs.declared.fault.EngineFault.TheVariants as faults

-- with an audit or without
pub said_with : (audit : Bool) (run : RunName) (old new : Option (List ℕ)) (r : Result ℕ EngineFault) → (audit ≡ false → IsOutputOf (RunSays run) old new r)
    → (audit ≡ true → IsOutputOf (AuditSays run) old new r) → IsOutputOf (says_with audit run) old new r
said_with true run old new r plain audited = audited refl
said_with false run old new r plain audited = plain refl

module _ (may : Problem → Said → Type 0) (refuses : NetworkFault → Type 0) (source_failed sink_failed : Type 0) (text : List ℕ) (old : Option (List ℕ)) where
  left : (fault : EngineFault) → IsSourceFault text fault → IsLeft may refuses_none text old old fault
  left faults.Read is = Keeps-refl old
  left (faults.File fault) is = (is, Keeps-refl old)
  left faults.Memory is = Keeps-refl old
  left faults.Write never = absurd never
  left (faults.Answer fault) never = absurd never

  unread : (fault : EngineFault) → IsSourceFault text fault → (fault ≡ faults.Read → source_failed) → IsDeviceFault source_failed sink_failed (Err fault)
  unread faults.Read is failed = failed refl
  unread (faults.File fault) is failed = tt
  unread faults.Memory is failed = tt
  unread faults.Write never failed = absurd never
  unread (faults.Answer fault) never failed = absurd never

  -- where the text wasn't read, or has no problem
  pub ends_unread : (fault : EngineFault) (status : ℕ) → IsSourceFault text fault → (fault ≡ faults.Read → source_failed) → status ≡ fault_status fault →
      EndsAs may refuses source_failed sink_failed text old old status
  ends_unread fault status is failed told = inl (record { end = Err fault; ended = left fault is; device = unread fault is failed; status_is = told })

  -- where no links could be had
  pub ends_unlinked : (fault : NetworkFault) (status : ℕ) → refuses fault → status ≡ unlinked_status fault →
      EndsAs may refuses source_failed sink_failed text old old status
  ends_unlinked fault status refused told = inr (record { fault = fault; refused = refused; kept = Keeps-refl old; status_is = told })

  module _ (new : Option (List ℕ)) (problem : Problem) (ignored : ℕ) (read : IsProblemOf text problem ignored) where
    -- where all was written
    pub ends_said : (status told : ℕ) → IsSaidOf (may problem) old new status → told ≡ status → EndsAs may refuses source_failed sink_failed text old new told
    ends_said status told said is = inl (record {
      end = Ok (record { status = status; ignored = ignored; why = None });
      ended = record { problem = problem; read = read; says = said };
      device = tt;
      status_is = is;
    })

    stopped : (fault : EngineFault) → IsStoppedOf (may problem) old new fault → IsLeft may refuses_none text old new fault
    stopped faults.Write begun = record { problem = problem; ignored = ignored; read = read; begun = begun }
    stopped faults.Memory kept = kept
    stopped faults.Read never = absurd never
    stopped (faults.File fault) never = absurd never
    stopped (faults.Answer fault) never = absurd never

    unwritten : (fault : EngineFault) → IsStoppedOf (may problem) old new fault → (fault ≡ faults.Write → sink_failed) →
        IsDeviceFault source_failed sink_failed (Err fault)
    unwritten faults.Write begun failed = failed refl
    unwritten faults.Memory kept failed = tt
    unwritten faults.Read never failed = absurd never
    unwritten (faults.File fault) never failed = absurd never
    unwritten (faults.Answer fault) never failed = absurd never

    -- where a fault came of the search or of writing
    pub ends_stopped : (fault : EngineFault) (told : ℕ) → IsStoppedOf (may problem) old new fault → (fault ≡ faults.Write → sink_failed) → told ≡ fault_status fault →
        EndsAs may refuses source_failed sink_failed text old new told
    ends_stopped fault told is failed status = inl (record { end = Err fault; ended = stopped fault is; device = unwritten fault is failed; status_is = status })

-- ---- what is said with less known of the source

module _ (may : Problem → Said → Type 0) (refuses : NetworkFault → Type 0) (source_failed sink_failed : Type 0) (text : List ℕ) (old new : Option (List ℕ)) (status : ℕ) where
  later : (end : Result EngineEnd EngineFault) → IsDeviceFault ⊥ sink_failed end → IsDeviceFault source_failed sink_failed end
  later (Ok end) is = tt
  later (Err faults.Read) never = absurd never
  later (Err faults.Write) failed = failed
  later (Err faults.Memory) is = tt
  later (Err (faults.File fault)) is = tt
  later (Err (faults.Answer fault)) is = tt

  -- of a source that can't have failed any more
  pub ends_read : EndsAs may refuses ⊥ sink_failed text old new status → EndsAs may refuses source_failed sink_failed text old new status
  ends_read (inl engine) = inl (record { end = engine.end; ended = engine.ended; device = later engine.end engine.device; status_is = engine.status_is })
  ends_read (inr unlinked) = inr unlinked
