-- A run in which a result comes twice and is accepted once.
use Rattle.std.specs.Prelude.{List, [], ◌∷◌}
use Rattle.cover_problem.specs.Search.{Barren}
use Rattle.cover_world.specs.Plays.{root_guest, site0, site1, site2}
use Rattle.cover_world.specs.Worlds.{Acts, WorldMove}
use Rattle.node_core.specs.declared.event.Event.TheVariants.{Ask, Deliver, Post, Take}
use Rattle.packet_wire.specs.declared.packet.Body.TheVariants.{Accept, Give, Over, Return, Steal}
use Rattle.packet_wire.specs.declared.packet.Packet.{Packet}
use Rattle.spawn_frame.specs.declared.child_result.ChildResult.TheVariants.{Empty}

-- the first node asks the registry for work
abbrev pub root_steal : Packet
root_steal = record { from = site1; to = site0; body = Steal }

-- it gets the root
abbrev pub root_give : Packet
root_give = record { from = site0; to = site1; body = Give 0 1 [] }

-- it has found no cover
abbrev pub root_return : Packet
root_return = record { from = site1; to = site0; body = Return 0 1 Empty }

-- the registry accepts, once for each time that the result comes
abbrev pub root_accept : Packet
root_accept = record { from = site0; to = site1; body = Accept 0 1 Empty }

-- and tells both nodes that the search is over
abbrev pub first_over : Packet
first_over = record { from = site0; to = site1; body = Over }

-- the same to the second node
abbrev pub second_over : Packet
second_over = record { from = site0; to = site2; body = Over }

-- all packets, in the order of sending
abbrev pub packets : List Packet
packets = root_steal ∷ root_give ∷ root_return ∷ root_accept ∷ first_over ∷ second_over ∷ root_accept ∷ []

-- the events
abbrev pub events : List WorldMove
events =
    Acts 1 (Ask 0)
    ∷ Acts 0 (Deliver root_steal)
    ∷ Acts 1 (Deliver root_give)
    ∷ Acts 1 Take
    ∷ Acts 1 (Post (record { unit = root_guest 1; attempt = 1 }) (record { prefix = []; fuel = 1; outcome = Barren }))
    ∷ Acts 0 (Deliver root_return)
    ∷ Acts 0 (Deliver root_return)
    ∷ Acts 1 (Deliver root_accept)
    ∷ []
