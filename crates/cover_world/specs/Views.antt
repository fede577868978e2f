-- What is looked up at the site of a node.
use Rattle.std.specs.Prelude.{ℕ, Bool, List, Option, Some, None, find, option_map, slice_get}
use Rattle.std.specs.List.{position_from}
use Rattle.node_core.specs.SiteView.{View}
use Rattle.spawn_frame.specs.Tables.{attempt_in, is_here, is_out}
use Rattle.spawn_frame.specs.Units.{Entry, GuestEntry, Table}
use Rattle.spawn_frame.specs.declared.unit.Job.{Job}
use Rattle.spawn_frame.specs.declared.unit.Unit.{Unit as WorkUnit}
use Rattle.spawn_frame.specs.declared.unit.Unit.TheVariants.{Guest, Own}

-- the job of a unit at an attempt
abbrev pub job_of : WorkUnit → ℕ → Job
job_of unit attempt = record { unit = unit; attempt = attempt }

-- the job of an own child
abbrev pub child_job : List Entry → ℕ → Job
child_job own serial = job_of (Own serial) (attempt_in (slice_get own serial))

-- the job of a guest
abbrev pub guest_job : GuestEntry → Job
guest_job g = job_of (Guest g.name g.entry.attempt) g.entry.attempt

-- the own child of least serial that a worker has
abbrev pub first_here : List Entry → Option ℕ
first_here own = position_from (λ c. is_here c.status) 0 own

-- its job
abbrev pub here_child : List Entry → Option Job
here_child own = option_map (child_job own) (first_here own)

-- a worker has the guest
abbrev pub is_here_guest : GuestEntry → Bool
is_here_guest g = is_here g.entry.status

-- the job of the first guest that a worker has
abbrev pub here_guest : List GuestEntry → Option Job
here_guest guests = option_map guest_job (find is_here_guest guests)

-- the first of two jobs that is there
abbrev pub either_job : Option Job → Option Job → Option Job
either_job None second = second
either_job (Some job) second = Some job

-- the job of the least unit that a worker has: own children by serial, then guests in order
abbrev pub here_job : Table → Option Job
here_job table = either_job (here_child table.own) (here_guest table.guests)

-- the own child of least serial that is out
abbrev pub first_out : List Entry → Option ℕ
first_out own = position_from (λ c. is_out c.status) 0 own

-- what is looked up at a site, if it is there
abbrev pub looked_up : {A : Type 0} → (Table → Option A) → Option View → Option A
looked_up look None = None
looked_up look (Some view) = look view.table
