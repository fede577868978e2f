use Rattle.std.proofs.Common.{[], ◌∷◌, refl}
use Rattle.node_core.proofs.Shared.{steal_told}
use Rattle.node_core.proofs.site_state.SiteState.receive_steal.Goals as goal

pub returns-clause-step : goal.returns-clause-step
returns-clause-step c =
    let told =
    steal_told c.args.self.now _ c.args.from c.site-site.result c.in-Some.serials.items c.deref.result.now c.deref-2.result.now c.in_ok-given.given c.given_body.result c.answer_packet-2.result c.give_each.new.self
    c.self.view_is c.site-site.ensures c.answer_packet-2.ensures c.in-Some.ensures c.deref.ensures.0 c.deref-2.ensures.0
    c.in_ok-given.ensures.gifts c.in_ok-given.ensures.spelled c.given_body.ensures.gifts c.given_body.ensures.spelled c.give_each.ensures in
    (c.answer_packet-2.result ∷ [], c.in_ok-send-2.ensures.ok, (refl, told.0, told.1))
