-- Which unit is taken up, and which frame is settled.
use Rattle.std.specs.Prelude.{◌≡◌, ℕ, List, [], Some, None}
use Rattle.node_core.specs.SiteView.{View, unit_gets, unit_in}
use Rattle.node_core.specs.declared.reply.Reply.{Reply}
use Rattle.node_core.specs.declared.reply.Reply.TheVariants.{Idle, Ignored, Moved, Ripe, Taken}
use Rattle.packet_wire.specs.declared.packet.Packet.{Packet}
use Rattle.spawn_frame.specs.Picks.{ready_unit, ripe_unit}
use Rattle.spawn_frame.specs.Units.{Entry}
use Rattle.spawn_frame.specs.declared.status.Status.TheVariants.{Here, Ready}
use Rattle.spawn_frame.specs.declared.unit.Job.{Job}

-- nothing changes, and nothing is sent
abbrev pub Stays : View → List Packet → View → Type 0
Stays old out new = (new ≡ old) × (out ≡ [])

-- No frame is settled, and the first ready unit is taken up.
pub record TakesUp (old : View) (job : Job) (prefix : List ℕ) (out : List Packet) (new : View) : Type 0 where
  pub none_ripe : ripe_unit old.table ≡ None
  pub first : ready_unit old.table ≡ Some job.unit
  pub entry : Entry
  pub is : unit_in old job.unit ≡ Some entry
  pub ready : entry.status ≡ Ready
  pub attempt : job.attempt ≡ entry.attempt
  pub prefix_is : prefix ≡ entry.prefix
  pub after : new ≡ unit_gets old job.unit Here
  pub sends : out ≡ []

-- a settled frame is told, else a ready unit is taken up, else there is no work
abbrev pub TakeStep : View → Reply → List Packet → View → Type 0
TakeStep old (Ripe unit) out new = (ripe_unit old.table ≡ Some unit) × Stays old out new
TakeStep old (Taken job prefix) out new = TakesUp old job prefix out new
TakeStep old Idle out new = (ripe_unit old.table ≡ None) × (ready_unit old.table ≡ None) × Stays old out new
TakeStep old Moved out new = ⊥
TakeStep old Ignored out new = ⊥
