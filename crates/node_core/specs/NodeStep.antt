-- One event of a node.
use Rattle.std.specs.Prelude.{◌≡◌, ◌⊎◌, ◌≤◌, true, false, List, [], ◌∷◌, ◌++◌}
use Rattle.cover_problem.specs.Problem.{Problem}
use Rattle.node_core.specs.Arrivals.{AcceptStep, Denies, GiveStep, Gives, RefuseStep, ReturnStep}
use Rattle.node_core.specs.Membership.{MembersStep}
use Rattle.node_core.specs.Requests.{AskStep, RedoStep, gives_again, moved_by, registry, returns_again}
use Rattle.node_core.specs.Results.{FinishStep, PostStep}
use Rattle.node_core.specs.SiteView.{View}
use Rattle.node_core.specs.Taking.{Stays, TakeStep}
use Rattle.node_core.specs.declared.event.Event.{Event}
use Rattle.node_core.specs.declared.event.Event.TheVariants.{Again, Ask, Deliver, Finish, Greet, Post, Redo, Take}
use Rattle.node_core.specs.declared.reply.Reply.{Reply}
use Rattle.node_core.specs.declared.reply.Reply.TheVariants.{Ignored, Moved}
use Rattle.packet_wire.specs.Gifts.{gifts_in}
use Rattle.packet_wire.specs.declared.packet.Body.{Body}
use Rattle.packet_wire.specs.declared.packet.Body.TheVariants.{Abort, Accept, Give, GiveMany, Hello, Members, NoWork, Over, Refuse, Return, Steal}
use Rattle.packet_wire.specs.declared.packet.Packet.{Packet}
use Rattle.spawn_frame.specs.declared.site.Site.{Site}

-- Moved means a change or a packet
abbrev pub Tells : View → List Packet → View → Reply → Type 0
Tells old out new Moved = Stays old out new → ⊥
Tells old out new Ignored = Stays old out new
Tells old out new _ = ⊥

-- the view of a node that takes part no more
abbrev pub over_now : View → View
over_now view = record view { over = true }

-- a packet of this body arrives from a site
abbrev pub HearStep : Problem → View → Site → Body → Reply → List Packet → View → Type 0
HearStep problem old from Hello reply out new = ⊥
HearStep problem old from (Members incarnations) reply out new = MembersStep old incarnations out new × Tells old out new reply
HearStep problem old from Steal reply out new = (reply ≡ Moved) × (Denies old from out new ⊎ Gives old from out new)
HearStep problem old from (Give serial attempt prefix) reply out new = GiveStep problem old from (gifts_in (Give serial attempt prefix)) reply out new
HearStep problem old from (GiveMany prefix siblings) reply out new = GiveStep problem old from (gifts_in (GiveMany prefix siblings)) reply out new
HearStep problem old from NoWork reply out new = (reply ≡ Ignored) × Stays old out new
HearStep problem old from (Return serial attempt result) reply out new = (reply ≡ Moved) × ReturnStep old from serial attempt result out new
HearStep problem old from (Accept serial attempt result) reply out new = AcceptStep old (record { site = from; serial = serial }) attempt result reply out new
HearStep problem old from (Refuse serial attempt cause) reply out new = RefuseStep old (record { site = from; serial = serial }) attempt reply out new
HearStep problem old from (Abort serial attempt) reply out new = RefuseStep old (record { site = from; serial = serial }) attempt reply out new
HearStep problem old from Over reply out new = (reply ≡ Moved) × (new ≡ over_now old) × (out ≡ [])

-- one event of a node that is not over
abbrev pub EventStep : Problem → View → Event → Reply → List Packet → View → Type 0
EventStep problem old Take reply out new = TakeStep old reply out new
EventStep problem old (Post job finding) reply out new = (reply ≡ Moved) × PostStep problem old job finding out new
EventStep problem old (Finish unit) reply out new = (reply ≡ Moved) × FinishStep old unit out new
EventStep problem old (Ask victim) reply out new = (reply ≡ Moved) × AskStep old victim out new
EventStep problem old (Redo serial) reply out new = (reply ≡ Moved) × RedoStep old serial out new
EventStep problem old (Deliver packet) reply out new =
    (packet.to ≡ old.site) × (packet.from.node ≤ old.nodes) × HearStep problem old packet.from packet.body reply out new
EventStep problem old Again reply out new =
    (out ≡ gives_again old.site 0 old.own ++ returns_again old.site old.guests) × (new ≡ old) × (reply ≡ moved_by out)
EventStep problem old Greet reply out new =
    (reply ≡ Moved) × (new ≡ old) × (out ≡ record { from = old.site; to = registry; body = Hello } ∷ [])

-- one event of a node; one that is over takes part no more
abbrev pub NodeStep : Problem → View → Event → Reply → List Packet → View → Type 0
NodeStep problem old event reply out new = (old.over ≡ false) × EventStep problem old event reply out new
