-- A run in which packets come late and are said again, up to a node that hears that the search is over.
use Rattle.std.specs.Prelude.{List, [], ◌∷◌}
use Rattle.cover_problem.specs.Search.{Barren}
use Rattle.cover_world.specs.Plays.{root_guest, site0, site1, site2, site2_again}
use Rattle.cover_world.specs.Worlds.{Acts, Restarts, WorldMove}
use Rattle.node_core.specs.declared.event.Event.TheVariants.{Again, Ask, Deliver, Greet, Post, Redo, Take}
use Rattle.packet_wire.specs.declared.packet.Body.TheVariants.{Accept, Give, Hello, Members, Over, Return, Steal}
use Rattle.packet_wire.specs.declared.packet.Packet.{Packet}
use Rattle.spawn_frame.specs.declared.child_result.ChildResult.TheVariants.{Empty}

-- the second node greets in its first incarnation
abbrev pub first_hello : Packet
first_hello = record { from = site2; to = site0; body = Hello }

-- and in its second
abbrev pub second_hello : Packet
second_hello = record { from = site2_again; to = site0; body = Hello }

-- the first node is told which incarnations are known, also when the earlier greeting comes late
abbrev pub first_members : Packet
first_members = record { from = site0; to = site1; body = Members (1 ∷ 2 ∷ []) }

-- and so is the second
abbrev pub second_members : Packet
second_members = record { from = site0; to = site2_again; body = Members (1 ∷ 2 ∷ []) }

-- the first node asks for work
abbrev pub root_steal : Packet
root_steal = record { from = site1; to = site0; body = Steal }

-- it gets the root
abbrev pub first_give : Packet
first_give = record { from = site0; to = site1; body = Give 0 1 [] }

-- it gets the root again, and once more when the registry says it again
abbrev pub second_give : Packet
second_give = record { from = site0; to = site1; body = Give 0 2 [] }

-- it has found no cover, and says it again
abbrev pub second_return : Packet
second_return = record { from = site1; to = site0; body = Return 0 2 Empty }

-- the registry accepts
abbrev pub second_accept : Packet
second_accept = record { from = site0; to = site1; body = Accept 0 2 Empty }

-- the search is over: so it is told at once, again, and to a node that asks for work
abbrev pub first_over : Packet
first_over = record { from = site0; to = site1; body = Over }

-- the same to the second node, in the incarnation that is known
abbrev pub second_over : Packet
second_over = record { from = site0; to = site2_again; body = Over }

-- all packets, in the order of sending
abbrev pub packets : List Packet
packets = first_hello ∷ second_hello ∷ first_members ∷ second_members ∷ first_members ∷ second_members ∷ root_steal ∷ first_give ∷ second_give ∷ second_give ∷ second_return ∷ second_return ∷ second_accept ∷ first_over ∷ second_over ∷ first_over ∷ second_over ∷ first_over ∷ []

-- the events
abbrev pub events : List WorldMove
events =
    Acts 2 Greet
    ∷ Restarts 2 2 9
    ∷ Acts 2 Greet
    ∷ Acts 0 (Deliver second_hello)
    ∷ Acts 0 (Deliver first_hello)
    ∷ Acts 1 (Ask 0)
    ∷ Acts 0 (Deliver root_steal)
    ∷ Acts 0 (Redo 0)
    ∷ Acts 0 (Deliver root_steal)
    ∷ Acts 0 Again
    ∷ Acts 1 (Deliver second_give)
    ∷ Acts 1 Take
    ∷ Acts 1 (Post (record { unit = root_guest 2; attempt = 2 }) (record { prefix = []; fuel = 1; outcome = Barren }))
    ∷ Acts 1 Again
    ∷ Acts 0 (Deliver second_return)
    ∷ Acts 0 Again
    ∷ Acts 0 (Deliver root_steal)
    ∷ Acts 1 (Deliver first_over)
    ∷ []
