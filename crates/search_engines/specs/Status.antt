-- Exit statuses of faults.
use Rattle.std.specs.Prelude.{ℕ, Result, Ok, Err}
use Rattle.search_engines.specs.declared.engine.EngineEnd.{EngineEnd}
use Rattle.search_engines.specs.declared.fault.EngineFault.{EngineFault}
use Rattle.search_engines.specs.declared.fault.EngineFault.TheVariants as faults

-- 3 for a refused file or a failed device, 5 if memory ran out
abbrev pub fault_status : EngineFault → ℕ
fault_status faults.Read = 3
fault_status (faults.File fault) = 3
fault_status (faults.Answer fault) = 3
fault_status faults.Write = 3
fault_status faults.Memory = 5

-- the status of an engine that ended so
abbrev pub end_status : Result EngineEnd EngineFault → ℕ
end_status (Ok end) = end.status
end_status (Err fault) = fault_status fault
