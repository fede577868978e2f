use Rattle.std.proofs.Common.{List, slice_get, sym, ap, subst, ◌∙◌}
use Rattle.spawn_frame.specs.Tables.{has_status, may_end, parent_heard}
use Rattle.spawn_frame.specs.Units.{table_gets}
use Rattle.spawn_frame.specs.Works.{IsTable, change_child, table_of, with_heard, with_work_status}
use Rattle.spawn_frame.specs.declared.child.Child.{Child}
use Rattle.spawn_frame.specs.declared.guest.Guest.{Guest}
use Rattle.spawn_frame.specs.declared.status.Status.TheVariants.{Done}
use Rattle.spawn_frame.specs.declared.unit.Unit.TheVariants.{Own}
use Rattle.spawn_frame.proofs.Ended.{ended_heard, ended_kept, ended_view, parent_hears}
use Rattle.spawn_frame.proofs.Statuses.{child_here}
use Rattle.spawn_frame.proofs.table.Table.set_child_result.Goals as goal

pub tell_parent-heard-requires-clause-hears : goal.tell_parent-heard-requires-clause-hears
tell_parent-heard-requires-clause-hears c =
    let t = c.self.inside in
    let item = c.in-Some.child.now in
    let there = child_here may_end t.own c.args.serial item c.in-Some.ensures (ap (λ v. has_status may_end (slice_get v.own c.args.serial)) c.self.view_is ∙ c.requires) in
    parent_hears t.site t.names_limit t.own t.guests c.self.invariant c.args.serial there c.args.child_result

pub invariant_of-self : goal.invariant_of-self
invariant_of-self c =
    let t = c.self.inside in
    let item = c.in-Some.child.now in
    let r = c.args.child_result in
    let f = with_heard c.args.serial r in
    let p = item.parent in
    let there = child_here may_end t.own c.args.serial item c.in-Some.ensures (ap (λ v. has_status may_end (slice_get v.own c.args.serial)) c.self.view_is ∙ c.requires) in
    let heard = c.tell_parent-heard.ensures.own in
    let e = c.set_status.ensures ∙ ap (λ l. change_child (with_work_status (Done r)) l c.args.serial) heard in
    let g = c.tell_parent-heard.ensures.guests in
    subst (λ (q : List Child × List Guest). IsTable (table_of t.site t.names_limit q.0 q.1) q.0 q.1) (λ i. (sym e i, sym g i))
    (ended_kept t.site t.names_limit t.own t.guests c.self.invariant c.args.serial there r)

pub returns-clause-after : goal.returns-clause-after
returns-clause-after c =
    let t = c.self.inside in
    let item = c.in-Some.child.now in
    let r = c.args.child_result in
    let f = with_heard c.args.serial r in
    let p = item.parent in
    let there = child_here may_end t.own c.args.serial item c.in-Some.ensures (ap (λ v. has_status may_end (slice_get v.own c.args.serial)) c.self.view_is ∙ c.requires) in
    let heard = c.tell_parent-heard.ensures.own in
    let e = c.set_status.ensures ∙ ap (λ l. change_child (with_work_status (Done r)) l c.args.serial) heard in
    let g = c.tell_parent-heard.ensures.guests in
    (λ i. table_of t.site t.names_limit (e i) (g i))
    ∙ ended_view t.site t.names_limit t.own t.guests c.self.invariant c.args.serial there r
    ∙ ap (λ v. table_gets v (Own c.args.serial) (Done r)) c.self.view_is

pub returns-clause-heard : goal.returns-clause-heard
returns-clause-heard c =
    let t = c.self.inside in
    let item = c.in-Some.child.now in
    let r = c.args.child_result in
    let f = with_heard c.args.serial r in
    let p = item.parent in
    let there = child_here may_end t.own c.args.serial item c.in-Some.ensures (ap (λ v. has_status may_end (slice_get v.own c.args.serial)) c.self.view_is ∙ c.requires) in
    let heard = c.tell_parent-heard.ensures.own in
    let e = c.set_status.ensures ∙ ap (λ l. change_child (with_work_status (Done r)) l c.args.serial) heard in
    let g = c.tell_parent-heard.ensures.guests in
    c.tell_parent-heard.ensures.heard
    ∙ ended_heard t.site t.names_limit t.own t.guests c.self.invariant c.args.serial there r
    ∙ sym (ap (λ v. parent_heard v (Own c.args.serial))
    ((λ i. table_of t.site t.names_limit (e i) (g i))
    ∙ ended_view t.site t.names_limit t.own t.guests c.self.invariant c.args.serial there r))
