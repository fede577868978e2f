-- What is one of the things that may be said is written as one of them.
use Rattle.std.proofs.Common.{◌≡◌, ℕ, List, ◌++◌, Option, Result, Ok, Err, IfErr, ap, ◌∙◌}
use Rattle.std.proofs.KnownBytes.{Appends-trans}
use Rattle.dlx_reader.proofs.Written.{front_both, written_both}
use Rattle.search_engines.specs.Output.{Said, IsOutput, IsOutputOf, IsSaid, IsStopped, IsStoppedOf, said}
use Rattle.search_engines.specs.declared.fault.EngineFault.{EngineFault}
use Rattle.search_engines.specs.declared.fault.EngineFault.TheVariants as faults

stopped_of : (may : Said → Type 0) (what : Said) (old new : Option (List ℕ)) (fault : EngineFault) → may what → IsStopped what old new fault → IsStoppedOf may old new fault
stopped_of may what old new faults.Write is begun = record { what = what; may_be = is; written = begun }
stopped_of may what old new faults.Memory is kept = kept
stopped_of may what old new faults.Read is never = never
stopped_of may what old new (faults.File fault) is never = never
stopped_of may what old new (faults.Answer fault) is never = never

pub output_of : (may : Said → Type 0) (what : Said) (old new : Option (List ℕ)) (r : Result ℕ EngineFault) → may what → IsOutput what old new r → IsOutputOf may old new r
output_of may what old new (Ok status) is written = record { what = what; may_be = is; is = written }
output_of may what old new (Err fault) is stopped = stopped_of may what old new fault is stopped

-- ---- two texts, one after the other

-- where the first is written and the second is tried, which fails only where the device does; what status is told may depend on that of the first
pub output_both : (front : Said) (behind : List ℕ) (status_after : ℕ → ℕ) (a b c : Option (List ℕ)) (status : ℕ) (r : Result ℕ EngineFault) → IsSaid front a b status
    → IsOutput (said behind (status_after status)) b c r → IfErr r (λ fault. fault ≡ faults.Write) → IsOutput (said (front.text ++ behind) (status_after front.status)) a c r
output_both front behind status_after a b c status (Ok last) first second fails =
    record { written = Appends-trans a b c front.text behind first.written second.written; ends = second.ends ∙ ap status_after first.ends }
output_both front behind status_after a b c status (Err faults.Write) first second fails = written_both {T = ℕ} {E = EngineFault} a b c front.text behind (Err faults.Write) first.written second
output_both front behind status_after a b c status (Err faults.Memory) first second fails = absurd (cc)
output_both front behind status_after a b c status (Err faults.Read) first second fails = absurd (cc)
output_both front behind status_after a b c status (Err (faults.File fault)) first second fails = absurd (cc)
output_both front behind status_after a b c status (Err (faults.Answer fault)) first second fails = absurd (cc)

-- where the first stopped, the second is not tried
pub stopped_before : (front : Said) (behind : List ℕ) (status : ℕ) (a b : Option (List ℕ)) (fault : EngineFault) → IsStopped front a b fault
    → IsStopped (said (front.text ++ behind) status) a b fault
stopped_before front behind status a b faults.Write begun = front_both a b front.text behind begun
stopped_before front behind status a b faults.Memory kept = kept
stopped_before front behind status a b faults.Read never = never
stopped_before front behind status a b (faults.File fault) never = never
stopped_before front behind status a b (faults.Answer fault) never = never
