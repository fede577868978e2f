use Rattle.std.proofs.Common.{length, ap, arith}
use Rattle.node_core.proofs.Again.{all_returned, returns_sent}
use Rattle.node_core.specs.SiteView.{View}
use Rattle.spawn_frame.specs.Tables.{open_guests}
use Rattle.spawn_frame.specs.Units.{Table}
use Rattle.node_core.proofs.site_state.SiteState.return_again.Goals as goal

pub loop-place-preserved : goal.loop-place-preserved
loop-place-preserved c =
    returns_sent c.args.out.now c.loop-place.out c.return_one_again.new.out c.args.self.now.site (open_guests c.args.self.now.guests) c.loop-place.place
    (omega (arith, c.open_count-place-end.ensures.count, ap (λ (t : Table). length (open_guests t.guests)) c.table.ensures.table, ap (λ (v : View). length (open_guests v.guests)) c.self.view_is)) c.loop-place.invariant c.in_ok-return_one_again.ensures.ok

pub returns-clause-ok : goal.returns-clause-ok
returns-clause-ok c =
    all_returned c.args.out.now c.loop-place.out c.args.self.now.site c.args.self.now.guests c.loop-place.place
    (omega (arith, c.open_count-place-end.ensures.count, ap (λ (t : Table). length (open_guests t.guests)) c.table.ensures.table, ap (λ (v : View). length (open_guests v.guests)) c.self.view_is)) c.loop-place.invariant
