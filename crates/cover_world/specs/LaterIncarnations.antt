-- A run in which nodes restart while the root is out: first a node that hasn't got it, and then the thief.
use Rattle.std.specs.Prelude.{List, [], ◌∷◌}
use Rattle.cover_world.specs.Plays.{site0, site1, site1_again, site2_again}
use Rattle.cover_world.specs.Worlds.{Acts, Restarts, WorldMove}
use Rattle.node_core.specs.declared.event.Event.TheVariants.{Again, Ask, Deliver, Greet}
use Rattle.packet_wire.specs.declared.packet.Body.TheVariants.{Give, Hello, Members, NoWork, Steal}
use Rattle.packet_wire.specs.declared.packet.Packet.{Packet}

-- the first node asks for work
abbrev pub root_steal : Packet
root_steal = record { from = site1; to = site0; body = Steal }

-- it gets the root, and once more when the registry says it again
abbrev pub root_give : Packet
root_give = record { from = site0; to = site1; body = Give 0 1 [] }

-- the second node greets in its second incarnation
abbrev pub second_hello : Packet
second_hello = record { from = site2_again; to = site0; body = Hello }

-- the first node is told of that incarnation
abbrev pub first_members : Packet
first_members = record { from = site0; to = site1; body = Members (1 ∷ 2 ∷ []) }

-- and so is the second
abbrev pub second_members : Packet
second_members = record { from = site0; to = site2_again; body = Members (1 ∷ 2 ∷ []) }

-- the first node asks the second for work, in the incarnation that it was told of
abbrev pub thief_steal : Packet
thief_steal = record { from = site1; to = site2_again; body = Steal }

-- which has none
abbrev pub no_work : Packet
no_work = record { from = site2_again; to = site1; body = NoWork }

-- the first node greets in its second incarnation
abbrev pub first_hello : Packet
first_hello = record { from = site1_again; to = site0; body = Hello }

-- it is told which incarnations are known now
abbrev pub first_members_later : Packet
first_members_later = record { from = site0; to = site1_again; body = Members (2 ∷ 2 ∷ []) }

-- and so is the second node
abbrev pub second_members_later : Packet
second_members_later = record { from = site0; to = site2_again; body = Members (2 ∷ 2 ∷ []) }

-- all packets, in the order of sending
abbrev pub packets : List Packet
packets = root_steal ∷ root_give ∷ second_hello ∷ first_members ∷ second_members ∷ root_give ∷ thief_steal ∷ no_work ∷ first_hello ∷ first_members_later ∷ second_members_later ∷ []

-- the events
abbrev pub events : List WorldMove
events =
    Acts 1 (Ask 0)
    ∷ Acts 0 (Deliver root_steal)
    ∷ Restarts 2 2 9
    ∷ Acts 2 Greet
    ∷ Acts 0 (Deliver second_hello)
    ∷ Acts 0 Again
    ∷ Acts 1 (Deliver first_members)
    ∷ Acts 1 (Ask 2)
    ∷ Acts 2 (Deliver thief_steal)
    ∷ Acts 1 (Deliver no_work)
    ∷ Restarts 1 2 9
    ∷ Acts 1 Greet
    ∷ Acts 0 (Deliver first_hello)
    ∷ []
