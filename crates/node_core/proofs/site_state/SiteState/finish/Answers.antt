use Rattle.std.proofs.Common.{◌++◌, List, refl, sym, subst}
use Rattle.node_core.proofs.Sending.{sends_more}
use Rattle.node_core.proofs.Aborts.{appended_whole, finish_step, sends_after}
use Rattle.node_core.proofs.site_state.SiteState.finish.Goals as goal
use Rattle.node_core.specs.Outgoing.{loaded}
use Rattle.node_core.specs.SiteView.{abort_packets}
use Rattle.spawn_frame.specs.Aborts.{Reached}
use Rattle.steal_return.specs.Finishing.{FinishesFrame}

pub returns-clause-step : goal.returns-clause-step
returns-clause-step c =
    let Finished : List Reached → Type 0 = λ outs. FinishesFrame c.self.inside.ledger c.args.unit outs c.finish.new.self in
    let whole = appended_whole Finished c.new-stolen.result.items c.finish.new.list.items c.new-stolen.ensures.items c.in_ok-finish.ensures.ok in
    let told : FinishesFrame c.self.inside.ledger c.args.unit c.deref.result.now c.finish.new.self = subst Finished (sym c.deref.ensures.value) whole in
    let aborts = abort_packets c.site-site.result c.deref.result.now in (
      aborts ++ loaded c.in_ok-load.load,
      sends_more c.args.out.now c.put_aborts.new.self c.put_ready.new.self aborts (loaded c.in_ok-load.load)
          (sends_after c.args.out.now c.reserve.new.self c.put_aborts.new.self aborts c.reserve.ensures.same c.put_aborts.ensures.sends)
          c.put_ready.ensures,
      (
        refl,
        finish_step c.args.self.now _ c.args.unit c.site-site.result c.deref.result.now c.finish.new.self (loaded c.in_ok-load.load)
            c.self.view_is c.site-site.ensures told c.in_ok-load.ensures.returns,
      ),
    )
