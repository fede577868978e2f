-- A path has nothing to share, so any thread may share it.
use denote.Param.Send.{IsSync, part_keyless}
use Rattle.spawn_frame.specs.contracts.ghost_prefix.GhostPrefix.{the_row}
use Rattle.spawn_frame.proofs.ghost_prefix.GhostPrefix.TheSendSync.Send.{send}

pub sync : IsSync the_row
sync = record { shared = λ d b o κ q. part_keyless the_row send q d b o }
