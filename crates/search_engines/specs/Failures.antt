-- What a failure says beside the fault that it turns into.
use Rattle.std.specs.Prelude.{◌≡◌, ◌⊎◌, ℕ, List, Result, Ok, Err}
use Rattle.dlx_reader.specs.Content.{content_of}
use Rattle.dlx_reader.specs.Unknown.{IsFirstName, IsOther, short_bytes, unknown_of}
use Rattle.dlx_reader.specs.declared.fault.ReadFault.TheVariants as read_faults
use Rattle.search_engines.specs.declared.engine.EngineEnd.{EngineEnd}
use Rattle.search_engines.specs.declared.engine.Written.{Written}
use Rattle.search_engines.specs.declared.failure.Failure.{Failure}
use Rattle.search_engines.specs.declared.failure.Failure.TheVariants as failures
use Rattle.search_engines.specs.declared.failure.Unread.{Unread}
use Rattle.search_engines.specs.declared.fault.EngineFault.{EngineFault}
use Rattle.search_engines.specs.declared.fault.EngineFault.TheVariants as faults

-- the fault without what a message names beside
abbrev pub plain_fault : Failure → EngineFault
plain_fault (failures.Unread which) = faults.Read
plain_fault (failures.UnknownItem unknown) = faults.File (read_faults.UnknownItem unknown.line)
plain_fault (failures.Other fault) = fault

-- what an engine returned, so
abbrev pub plain : {X : Type 0} → Result X Failure → Result X EngineFault
plain (Ok x) = Ok x
plain (Err failure) = Err (plain_fault failure)

-- the end of an engine that wrote this, or couldn't, of a file of which so many options were ignored
abbrev pub ended : ℕ → Result Written EngineFault → Result EngineEnd Failure
ended ignored (Ok written) = Ok (record { status = written.status; ignored = ignored; why = written.why })
ended ignored (Err fault) = Err (failures.Other fault)

-- this input can't be read, or memory ran out
abbrev pub IsUnread : Unread → Failure → Type 0
IsUnread which failure = (failure ≡ failures.Unread which) ⊎ (failure ≡ failures.Other faults.Memory)

-- What it names: a read that failed comes with which input it was, and a name that no item has of this text is the first one in its options.
abbrev pub Tells : List ℕ → Failure → Type 0
Tells text (failures.Unread which) = Unit {0}
Tells text (failures.UnknownItem unknown) = IsFirstName (unknown_of (content_of text)) (short_bytes unknown.name)
Tells text (failures.Other faults.Read) = ⊥
Tells text (failures.Other (faults.File fault)) = IsOther fault
Tells text (failures.Other (faults.Answer fault)) = Unit {0}
Tells text (failures.Other faults.Write) = Unit {0}
Tells text (failures.Other faults.Memory) = Unit {0}
