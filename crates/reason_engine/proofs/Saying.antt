-- What says one thing says one of those that may be said.
use Rattle.std.proofs.Common.{ℕ, List, Option, Result, Ok, Err}
use Rattle.search_engines.specs.Output.{Said, IsOutput, IsOutputOf}
use Rattle.search_engines.specs.declared.fault.EngineFault.{EngineFault}
use Rattle.search_engines.specs.declared.fault.EngineFault.TheVariants as faults

pub output_of : (may : Said → Type 0) (what : Said) (old new : Option (List ℕ)) (r : Result ℕ EngineFault) → may what → IsOutput what old new r → IsOutputOf may old new r
output_of may what old new (Ok status) allowed output = record { what = what; may_be = allowed; is = output }
output_of may what old new (Err faults.Write) allowed output = record { what = what; may_be = allowed; written = output }
output_of may what old new (Err faults.Memory) allowed output = output
output_of may what old new (Err faults.Read) allowed output = output
output_of may what old new (Err (faults.File fault)) allowed output = output
output_of may what old new (Err (faults.Answer fault)) allowed output = output
