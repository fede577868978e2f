-- A run in which the second node is given two children of the root with one packet.
use Rattle.std.specs.Prelude.{ℕ, List, [], ◌∷◌}
use Rattle.cover_problem.specs.Problem.{Problem, uncoloured}
use Rattle.cover_problem.specs.Search.{Covers, Spent}
use Rattle.cover_world.specs.Plays.{root_guest, site0, site1, site2}
use Rattle.cover_world.specs.Worlds.{Acts, WorldMove}
use Rattle.node_core.specs.declared.event.Event.TheVariants.{Ask, Deliver, Finish, Post, Take}
use Rattle.packet_wire.specs.declared.packet.Body.TheVariants.{Abort, Accept, Give, GiveMany, Over, Return, Steal}
use Rattle.packet_wire.specs.declared.packet.Packet.{Packet}
use Rattle.spawn_frame.specs.declared.child_result.ChildResult.TheVariants.{Cover}
use Rattle.spawn_frame.specs.declared.siblings.Sibling.{Sibling}
use Rattle.spawn_frame.specs.declared.unit.Unit.{Unit as WorkUnit}
use Rattle.spawn_frame.specs.declared.unit.Unit.TheVariants.{Guest}

-- one primary item, and four options that name it alone
abbrev pub four_ways : Problem
four_ways = uncoloured ((97 ∷ []) ∷ []) 1 ((0 ∷ []) ∷ (0 ∷ []) ∷ (0 ∷ []) ∷ (0 ∷ []) ∷ [])

-- a child of the root, by its serial, which is that of its option
abbrev pub sibling : ℕ → Sibling
sibling serial = record { serial = serial; attempt = 1; option = serial }

-- the first node's child of this serial, as the second node's guest
abbrev pub stolen : ℕ → WorkUnit
stolen serial = Guest (record { site = site1; serial = serial }) 1

-- the first node asks for work
abbrev pub root_steal : Packet
root_steal = record { from = site1; to = site0; body = Steal }

-- it gets the root
abbrev pub root_give : Packet
root_give = record { from = site0; to = site1; body = Give 0 1 [] }

-- the second node asks the first
abbrev pub child_steal : Packet
child_steal = record { from = site2; to = site1; body = Steal }

-- it gets two of the four children
abbrev pub children_give : Packet
children_give = record { from = site1; to = site2; body = GiveMany [] (sibling 0 ∷ sibling 1 ∷ []) }

-- it returns the cover of the first
abbrev pub child_return : Packet
child_return = record { from = site2; to = site1; body = Return 0 1 (Cover (0 ∷ [])) }

-- which is accepted
abbrev pub child_accept : Packet
child_accept = record { from = site1; to = site2; body = Accept 0 1 (Cover (0 ∷ [])) }

-- the other child is wanted no more
abbrev pub child_abort : Packet
child_abort = record { from = site1; to = site2; body = Abort 1 1 }

-- the first node returns the root's cover
abbrev pub root_return : Packet
root_return = record { from = site1; to = site0; body = Return 0 1 (Cover (0 ∷ [])) }

-- which is accepted
abbrev pub root_accept : Packet
root_accept = record { from = site0; to = site1; body = Accept 0 1 (Cover (0 ∷ [])) }

-- the search is over
abbrev pub first_over : Packet
first_over = record { from = site0; to = site1; body = Over }

-- for both nodes
abbrev pub second_over : Packet
second_over = record { from = site0; to = site2; body = Over }

-- all packets, in the order of sending
abbrev pub packets : List Packet
packets =
    root_steal
    ∷ root_give
    ∷ child_steal
    ∷ children_give
    ∷ child_return
    ∷ child_accept
    ∷ child_abort
    ∷ root_return
    ∷ root_accept
    ∷ first_over
    ∷ second_over
    ∷ []

-- the events
abbrev pub events : List WorldMove
events =
    Acts 1 (Ask 0)
    ∷ Acts 0 (Deliver root_steal)
    ∷ Acts 1 (Deliver root_give)
    ∷ Acts 1 Take
    ∷ Acts 1 (Post (record { unit = root_guest 1; attempt = 1 }) (record { prefix = []; fuel = 1; outcome = Spent }))
    ∷ Acts 2 (Ask 1)
    ∷ Acts 1 (Deliver child_steal)
    ∷ Acts 2 (Deliver children_give)
    ∷ Acts 2 (Deliver children_give)
    ∷ Acts 2 Take
    ∷ Acts 2 (Post (record { unit = stolen 0; attempt = 1 }) (record { prefix = 0 ∷ []; fuel = 1; outcome = Covers (0 ∷ []) }))
    ∷ Acts 1 (Deliver child_return)
    ∷ Acts 1 (Finish (root_guest 1))
    ∷ Acts 2 (Deliver child_abort)
    ∷ Acts 0 (Deliver root_return)
    ∷ []
