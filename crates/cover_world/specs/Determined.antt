-- What a step leaves open.
use Rattle.std.specs.Prelude.{◌≡◌, ℕ, Bool, true, false, List, [], ◌∷◌}
use Rattle.cover_problem.specs.Problem.{Problem}
use Rattle.node_core.specs.Acting.{StepOf}
use Rattle.node_core.specs.SiteView.{View}
use Rattle.node_core.specs.declared.event.Event.{Event}
use Rattle.node_core.specs.declared.event.Event.TheVariants.{Deliver}
use Rattle.node_core.specs.declared.reply.Reply.{Reply}
use Rattle.packet_wire.specs.Gifts.{gifts_in}
use Rattle.packet_wire.specs.declared.packet.Body.{Body}
use Rattle.packet_wire.specs.declared.packet.Body.TheVariants.{Steal}
use Rattle.packet_wire.specs.declared.packet.Packet.{Packet}
use Rattle.spawn_frame.specs.Gifts.{serials_of}

-- a packet that asks for work
abbrev pub asks_for_work : Body → Bool
asks_for_work Steal = true
asks_for_work _ = false

-- the event at which a site may choose: which of its ready children it gives
abbrev pub may_choose : Event → Bool
may_choose (Deliver packet) = asks_for_work packet.body
may_choose _ = false

-- the children that are given with the first of the packets, by their serials
abbrev pub given_by : List Packet → List ℕ
given_by [] = []
given_by (p ∷ ps) = serials_of (gifts_in p.body)

-- the same reply, packets and view after
abbrev pub SameStep : Reply → Reply → List Packet → List Packet → View → View → Type 0
SameStep reply other_reply out other_out new other_new = (reply ≡ other_reply) × (out ≡ other_out) × (new ≡ other_new)

-- Two steps of the same event from the same view are the same, where the event leaves no choice.
abbrev pub IsDetermined : StepOf → Type 0
IsDetermined Step = (problem : Problem) (old : View) (event : Event) (reply other_reply : Reply) (out other_out : List Packet) (new other_new : View)
    → may_choose event ≡ false → Step problem old event reply out new → Step problem old event other_reply other_out other_new
    → SameStep reply other_reply out other_out new other_new

-- They are the same too where both give the same children, or none.
abbrev pub IsDeterminedByChoice : StepOf → Type 0
IsDeterminedByChoice Step = (problem : Problem) (old : View) (event : Event) (reply other_reply : Reply) (out other_out : List Packet) (new other_new : View)
    → given_by out ≡ given_by other_out → Step problem old event reply out new → Step problem old event other_reply other_out other_new
    → SameStep reply other_reply out other_out new other_new
