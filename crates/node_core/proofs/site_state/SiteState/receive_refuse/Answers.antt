use Rattle.std.proofs.Common.{List, sym, subst}
use Rattle.node_core.proofs.Aborts.{appended_whole, drops_step, on_true, sends_after}
use Rattle.node_core.proofs.site_state.SiteState.receive_refuse.Goals as goal
use Rattle.node_core.specs.SiteView.{abort_packets}
use Rattle.spawn_frame.specs.Aborts.{Reached}
use Rattle.spawn_frame.specs.declared.site.ChildName.{ChildName}
use Rattle.steal_return.specs.Finishing.{Appends}
use Rattle.steal_return.specs.Guests.{DropsGuest}

pub returns-then-dropped-clause-step : goal.returns-then-dropped-clause-step
returns-then-dropped-clause-step c =
    let name : ChildName = record { site = c.args.from; serial = c.args.serial } in
    let Dropped : List Reached → Type 0 = λ outs. DropsGuest c.self.inside.ledger name c.args.attempt outs c.receive_refuse.new.self in
    let appended = on_true c.in_ok-dropped.dropped (Appends c.new-stolen.result.items c.receive_refuse.new.list.items Dropped) c.if-dropped.true c.in_ok-dropped.ensures.dropped in
    let whole = appended_whole Dropped c.new-stolen.result.items c.receive_refuse.new.list.items c.new-stolen.ensures.items appended in
    let told : DropsGuest c.self.inside.ledger name c.args.attempt c.deref.result.now c.receive_refuse.new.self = subst Dropped (sym c.deref.ensures.value) whole in (
      abort_packets c.site-site.result c.deref.result.now,
      sends_after c.args.out.now c.reserve.new.self c.put_aborts.new.self (abort_packets c.site-site.result c.deref.result.now) c.reserve.ensures.same c.put_aborts.ensures.sends,
      drops_step c.args.self.now _ name c.args.attempt c.site-site.result c.deref.result.now c.receive_refuse.new.self c.self.view_is c.site-site.ensures told,
    )
