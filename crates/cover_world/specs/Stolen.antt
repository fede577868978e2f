-- A run in which the first node splits the root and the second node steals a child of it, and then two ends of that run.
use Rattle.std.specs.Prelude.{ℕ, List, [], ◌∷◌, ◌++◌}
use Rattle.cover_problem.specs.Search.{Barren, Covers, Spent}
use Rattle.cover_world.specs.Plays.{root_guest, site0, site1, site2, site2_again}
use Rattle.cover_world.specs.Worlds.{Acts, Restarts, WorldMove}
use Rattle.node_core.specs.declared.event.Event.TheVariants.{Ask, Deliver, Finish, Greet, Post, Take}
use Rattle.packet_wire.specs.declared.packet.Body.TheVariants.{Abort, Accept, Give, Hello, Members, Over, Refuse, Return, Steal}
use Rattle.packet_wire.specs.declared.packet.Packet.{Packet}
use Rattle.spawn_frame.specs.declared.cause.Cause.TheVariants as causes
use Rattle.spawn_frame.specs.declared.child_result.ChildResult.TheVariants.{Cover, Empty}
use Rattle.spawn_frame.specs.declared.unit.Unit.{Unit as WorkUnit}
use Rattle.spawn_frame.specs.declared.unit.Unit.TheVariants.{Guest, Own}

-- the first node's first child, as the second node's guest
abbrev pub stolen : WorkUnit
stolen = Guest (record { site = site1; serial = 0 }) 1

-- options 3, 4 and 0: the one exact cover
abbrev pub cover : List ℕ
cover = 3 ∷ 4 ∷ 0 ∷ []

-- ---- until the second node returns

-- the first node asks for work
abbrev pub root_steal : Packet
root_steal = record { from = site1; to = site0; body = Steal }

-- it gets the root
abbrev pub root_give : Packet
root_give = record { from = site0; to = site1; body = Give 0 1 [] }

-- the second node asks the first
abbrev pub child_steal : Packet
child_steal = record { from = site2; to = site1; body = Steal }

-- it gets the first child, whose prefix is option 1
abbrev pub child_give : Packet
child_give = record { from = site1; to = site2; body = Give 0 1 (1 ∷ []) }

-- below which there is no cover
abbrev pub child_return : Packet
child_return = record { from = site2; to = site1; body = Return 0 1 Empty }

-- the packets until then, in the order of sending
abbrev pub packets : List Packet
packets = root_steal ∷ root_give ∷ child_steal ∷ child_give ∷ child_return ∷ []

-- the events until then
abbrev pub events : List WorldMove
events =
    Acts 1 (Ask 0)
    ∷ Acts 0 (Deliver root_steal)
    ∷ Acts 1 (Deliver root_give)
    ∷ Acts 1 Take
    ∷ Acts 1 (Post (record { unit = root_guest 1; attempt = 1 }) (record { prefix = []; fuel = 1; outcome = Spent }))
    ∷ Acts 2 (Ask 1)
    ∷ Acts 1 (Deliver child_steal)
    ∷ Acts 2 (Deliver child_give)
    ∷ Acts 2 Take
    ∷ Acts 2 (Post (record { unit = stolen; attempt = 1 }) (record { prefix = 1 ∷ []; fuel = 2; outcome = Barren }))
    ∷ []

-- ---- one end: the first node finishes before the stolen child's result comes

-- the thief is told that its guest is wanted no more
abbrev pub late_abort : Packet
late_abort = record { from = site1; to = site2; body = Abort 0 1 }

-- the frame's cover
abbrev pub late_return : Packet
late_return = record { from = site1; to = site0; body = Return 0 1 (Cover cover) }

-- the late result is refused
abbrev pub late_refuse : Packet
late_refuse = record { from = site1; to = site2; body = Refuse 0 1 causes.Aborted }

-- the cover is accepted
abbrev pub late_accept : Packet
late_accept = record { from = site0; to = site1; body = Accept 0 1 (Cover cover) }

-- the search is over
abbrev pub late_first_over : Packet
late_first_over = record { from = site0; to = site1; body = Over }

-- for both nodes
abbrev pub late_second_over : Packet
late_second_over = record { from = site0; to = site2; body = Over }

-- all packets, in the order of sending
abbrev pub late_packets : List Packet
late_packets = packets ++ late_abort ∷ late_return ∷ late_refuse ∷ late_accept ∷ late_first_over ∷ late_second_over ∷ []

-- the events
abbrev pub late_events : List WorldMove
late_events =
    events
    ++ Acts 1 Take
    ∷ Acts 1 (Post (record { unit = Own 1; attempt = 1 }) (record { prefix = 3 ∷ []; fuel = 3; outcome = Covers cover }))
    ∷ Acts 1 (Finish (root_guest 1))
    ∷ Acts 1 (Deliver child_return)
    ∷ Acts 2 (Deliver late_refuse)
    ∷ Acts 0 (Deliver late_return)
    ∷ []

-- ---- another end: the thief restarts before its result comes

-- the second node greets in its second incarnation
abbrev pub anew_hello : Packet
anew_hello = record { from = site2_again; to = site0; body = Hello }

-- the registry tells both nodes
abbrev pub anew_first_members : Packet
anew_first_members = record { from = site0; to = site1; body = Members (1 ∷ 2 ∷ []) }

-- the second node hears the same
abbrev pub anew_second_members : Packet
anew_second_members = record { from = site0; to = site2_again; body = Members (1 ∷ 2 ∷ []) }

-- the result of the earlier incarnation comes after that
abbrev pub anew_refuse : Packet
anew_refuse = record { from = site1; to = site2; body = Refuse 0 1 causes.Superseded }

-- all packets, in the order of sending
abbrev pub anew_packets : List Packet
anew_packets = packets ++ anew_hello ∷ anew_first_members ∷ anew_second_members ∷ anew_refuse ∷ []

-- the events
abbrev pub anew_events : List WorldMove
anew_events =
    events
    ++ Restarts 2 2 9
    ∷ Acts 2 Greet
    ∷ Acts 0 (Deliver anew_hello)
    ∷ Acts 1 (Deliver anew_first_members)
    ∷ Acts 1 (Deliver child_return)
    ∷ []
