use Rattle.std.proofs.Common.{◌≡◌, Some, option_map, ap}
use Rattle.cover_world.proofs.WorldSteps.{may_tell, read_packet, stepped, told}
use Rattle.cover_world.specs.Moves.{delivery, meaning}
use Rattle.cover_world.specs.declared.world_event.WorldEvent.TheVariants.{Deliver}
use Rattle.cover_world.proofs.world.World.deliver.Goals as goal
use Rattle.cover_world.proofs.world.World.deliver.Goals.{After-act}

pub act-requires-clause-sent : goal.act-requires-clause-sent
act-requires-clause-sent c = (
  c.args.place,
  read_packet _ c.args.self.now c.deref.result.now c.args.place c.in-Some.packet.now c.in_ok-packet.packet c.self.view_is c.deref.ensures.value
      c.in-Some.ensures.lookup.0 c.in-Some.ensures.lookup.1 c.in_ok-packet.ensures,
)

-- the event means that the packet comes
means : (c : After-act) → meaning c.args.self.now.problem c.args.self.now.world (Deliver c.args.place) ≡ Some (delivery c.in_ok-packet.packet)
means c =
    ap (option_map delivery)
    (read_packet _ c.args.self.now c.deref.result.now c.args.place c.in-Some.packet.now c.in_ok-packet.packet c.self.view_is c.deref.ensures.value
    c.in-Some.ensures.lookup.0 c.in-Some.ensures.lookup.1 c.in_ok-packet.ensures)

pub returns-clause-step : goal.returns-clause-step
returns-clause-step c =
    stepped c.args.self.now.problem c.args.self.now.world c.act.new.self.world (Deliver c.args.place) (delivery c.in_ok-packet.packet) c.act.result (means c)
    c.act.ensures.makes

pub returns-clause-refusal : goal.returns-clause-refusal
returns-clause-refusal c =
    may_tell c.act.result _ (told c.args.self.now.problem c.args.self.now.world (Deliver c.args.place) (delivery c.in_ok-packet.packet) c.act.result (means c) c.act.ensures.refusal)
