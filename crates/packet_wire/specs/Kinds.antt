-- The kinds of packets: their numbers, and between which sites each goes.
use Rattle.std.specs.Prelude.{ℕ, Bool, not, ◌&&◌, ◌==◌, if◌then◌else◌, Option, Some, None}
use Rattle.spawn_frame.specs.declared.site.Site.{Site}
use Rattle.packet_wire.specs.declared.kind.Kind.{Kind}
use Rattle.packet_wire.specs.declared.kind.Kind.TheVariants as kinds
use Rattle.packet_wire.specs.declared.packet.Body.{Body}
use Rattle.packet_wire.specs.declared.packet.Body.TheVariants as bodies
use Rattle.packet_wire.specs.declared.writing.TheConstants.{SECOND_VERSION, VERSION}

-- the kind of a body
abbrev pub kind_of : Body → Kind
kind_of bodies.Hello = kinds.Hello
kind_of (bodies.Members incarnations) = kinds.Members
kind_of bodies.Steal = kinds.Steal
kind_of (bodies.Give serial attempt prefix) = kinds.Give
kind_of (bodies.GiveMany prefix siblings) = kinds.GiveMany
kind_of bodies.NoWork = kinds.NoWork
kind_of (bodies.Return serial attempt result) = kinds.Return
kind_of (bodies.Accept serial attempt result) = kinds.Accept
kind_of (bodies.Refuse serial attempt cause) = kinds.Refuse
kind_of (bodies.Abort serial attempt) = kinds.Abort
kind_of bodies.Over = kinds.Over

-- the version of the packets of a kind
abbrev pub kind_version : Kind → ℕ
kind_version kinds.GiveMany = SECOND_VERSION
kind_version _ = VERSION

-- the number that stands for a kind, in its version
abbrev pub kind_number : Kind → ℕ
kind_number kinds.Hello = 1
kind_number kinds.Members = 2
kind_number kinds.Steal = 3
kind_number kinds.Give = 4
kind_number kinds.GiveMany = 4
kind_number kinds.NoWork = 5
kind_number kinds.Return = 6
kind_number kinds.Accept = 7
kind_number kinds.Refuse = 8
kind_number kinds.Abort = 9
kind_number kinds.Over = 10

-- the kind that a number stands for in the first version, if any
abbrev pub first_numbered : ℕ → Option Kind
first_numbered n =
    if n == 1 then Some kinds.Hello
    else if n == 2 then Some kinds.Members
    else if n == 3 then Some kinds.Steal
    else if n == 4 then Some kinds.Give
    else if n == 5 then Some kinds.NoWork
    else if n == 6 then Some kinds.Return
    else if n == 7 then Some kinds.Accept
    else if n == 8 then Some kinds.Refuse
    else if n == 9 then Some kinds.Abort
    else if n == 10 then Some kinds.Over
    else None

-- the kind that a number stands for in a version, if any: the second one has but several children that are given together
abbrev pub kind_numbered : ℕ → ℕ → Option Kind
kind_numbered version n =
    if version == SECOND_VERSION then (if n == 4 then Some kinds.GiveMany else None) else first_numbered n

-- Whether a packet of the kind goes between these two: the registry is 0, and each other number a node. Two that differ
-- are not both the registry.
abbrev pub is_directed : Kind → ℕ → ℕ → Bool
is_directed kinds.Hello from to = to == 0
is_directed kinds.Members from to = from == 0
is_directed kinds.Steal from to = not (from == 0)
is_directed kinds.Give from to = not (to == 0)
is_directed kinds.GiveMany from to = not (from == 0) && not (to == 0)
is_directed kinds.NoWork from to = not (to == 0)
is_directed kinds.Return from to = not (from == 0)
is_directed kinds.Accept from to = not (to == 0)
is_directed kinds.Refuse from to = not (to == 0)
is_directed kinds.Abort from to = not (to == 0)
is_directed kinds.Over from to = from == 0

-- whether a packet of the kind goes from the one site to the other
abbrev pub is_routed : Kind → Site → Site → Bool
is_routed kind from to = not (from.node == to.node) && is_directed kind from.node to.node
