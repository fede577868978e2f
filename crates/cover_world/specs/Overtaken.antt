-- A run in which the root is redone, and both thieves settle on the result of the second.
use Rattle.std.specs.Prelude.{List, [], ◌∷◌}
use Rattle.cover_problem.specs.Problem.{Problem, uncoloured}
use Rattle.cover_problem.specs.Search.{Covers, Spent}
use Rattle.cover_world.specs.Plays.{root_guest, site0, site1, site2}
use Rattle.cover_world.specs.Worlds.{Acts, WorldMove}
use Rattle.node_core.specs.declared.event.Event.TheVariants.{Ask, Deliver, Finish, Post, Redo, Take}
use Rattle.packet_wire.specs.declared.packet.Body.TheVariants.{Accept, Give, Over, Return, Steal}
use Rattle.packet_wire.specs.declared.packet.Packet.{Packet}
use Rattle.spawn_frame.specs.declared.child_result.ChildResult.TheVariants.{Cover}
use Rattle.spawn_frame.specs.declared.unit.Unit.TheVariants.{Own}

-- one primary item, and two options that name it alone
abbrev pub two_ways : Problem
two_ways = uncoloured ((97 ∷ []) ∷ []) 1 ((0 ∷ []) ∷ (0 ∷ []) ∷ [])

-- the first node asks for work
abbrev pub first_steal : Packet
first_steal = record { from = site1; to = site0; body = Steal }

-- it gets the root
abbrev pub first_give : Packet
first_give = record { from = site0; to = site1; body = Give 0 1 [] }

-- the second node asks
abbrev pub second_steal : Packet
second_steal = record { from = site2; to = site0; body = Steal }

-- it gets the root too, at the next attempt
abbrev pub second_give : Packet
second_give = record { from = site0; to = site2; body = Give 0 2 [] }

-- the first node returns the first option
abbrev pub first_return : Packet
first_return = record { from = site1; to = site0; body = Return 0 1 (Cover (0 ∷ [])) }

-- the second node returns the second
abbrev pub second_return : Packet
second_return = record { from = site2; to = site0; body = Return 0 2 (Cover (1 ∷ [])) }

-- which comes first and is accepted
abbrev pub second_accept : Packet
second_accept = record { from = site0; to = site2; body = Accept 0 2 (Cover (1 ∷ [])) }

-- the search is over
abbrev pub first_over : Packet
first_over = record { from = site0; to = site1; body = Over }

-- for both nodes
abbrev pub second_over : Packet
second_over = record { from = site0; to = site2; body = Over }

-- the first node hears of the result that the registry holds, which is not its own
abbrev pub late_accept : Packet
late_accept = record { from = site0; to = site1; body = Accept 0 1 (Cover (1 ∷ [])) }

-- all packets, in the order of sending
abbrev pub packets : List Packet
packets = first_steal ∷ first_give ∷ second_steal ∷ second_give ∷ first_return ∷ second_return ∷ second_accept ∷ first_over ∷ second_over ∷ late_accept ∷ []

-- the events
abbrev pub events : List WorldMove
events =
    Acts 1 (Ask 0)
    ∷ Acts 0 (Deliver first_steal)
    ∷ Acts 0 (Redo 0)
    ∷ Acts 2 (Ask 0)
    ∷ Acts 0 (Deliver second_steal)
    ∷ Acts 1 (Deliver first_give)
    ∷ Acts 2 (Deliver second_give)
    ∷ Acts 1 Take
    ∷ Acts 1 (Post (record { unit = root_guest 1; attempt = 1 }) (record { prefix = []; fuel = 2; outcome = Covers (0 ∷ []) }))
    ∷ Acts 2 Take
    ∷ Acts 2 (Post (record { unit = root_guest 2; attempt = 2 }) (record { prefix = []; fuel = 1; outcome = Spent }))
    ∷ Acts 2 Take
    ∷ Acts 2 (Post (record { unit = Own 1; attempt = 1 }) (record { prefix = 1 ∷ []; fuel = 1; outcome = Covers (1 ∷ []) }))
    ∷ Acts 2 (Finish (root_guest 2))
    ∷ Acts 0 (Deliver second_return)
    ∷ Acts 0 (Deliver first_return)
    ∷ Acts 1 (Deliver late_accept)
    ∷ Acts 2 (Deliver second_accept)
    ∷ []
