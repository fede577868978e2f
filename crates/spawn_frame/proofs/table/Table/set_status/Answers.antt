use Rattle.std.proofs.Common.{List, sym, ap, subst, ◌∙◌}
use Rattle.spawn_frame.specs.Tables.{has_status}
use Rattle.spawn_frame.specs.Units.{table_gets, unit_of}
use Rattle.spawn_frame.specs.Works.{IsTable, may_become, table_of, with_work_status}
use Rattle.spawn_frame.specs.declared.child.Child.{Child}
use Rattle.spawn_frame.specs.declared.guest.Guest.{Guest}
use Rattle.spawn_frame.proofs.Lookups.{no_parent}
use Rattle.spawn_frame.proofs.Opened.{becoming_stays}
use Rattle.spawn_frame.proofs.Statuses.{status_kept, status_view}
use Rattle.spawn_frame.proofs.table.Table.set_status.Goals as goal

pub invariant_of-self : goal.invariant_of-self
invariant_of-self c =
    let t = c.self.inside in
    let f = with_work_status c.args.status in
    let e = c.set_unit.ensures.own in
    let g = c.set_unit.ensures.guests in
    subst (λ (p : List Child × List Guest). IsTable (table_of t.site t.names_limit p.0 p.1) p.0 p.1) (λ i. (sym e i, sym g i))
    (status_kept t.site t.names_limit t.own t.guests c.self.invariant c.args.unit c.args.status
    (ap (λ v. has_status (may_become c.args.unit c.args.status) (unit_of v c.args.unit)) c.self.view_is ∙ c.requires))

pub returns-clause-after : goal.returns-clause-after
returns-clause-after c =
    let t = c.self.inside in
    let f = with_work_status c.args.status in
    let e = c.set_unit.ensures.own in
    let g = c.set_unit.ensures.guests in
    (λ i. table_of t.site t.names_limit (e i) (g i))
    ∙ status_view t.site t.names_limit t.own t.guests c.args.unit c.args.status
    ∙ ap (λ v. table_gets v c.args.unit c.args.status) c.self.view_is

pub returns-clause-guests : goal.returns-clause-guests
returns-clause-guests c = λ name attempt. no_parent _ name attempt

pub set_unit-requires-clause-stays : goal.set_unit-requires-clause-stays
set_unit-requires-clause-stays c =
    let t = c.self.inside in
    becoming_stays t.site t.names_limit t.own t.guests c.args.unit c.args.status
    (ap (λ v. has_status (may_become c.args.unit c.args.status) (unit_of v c.args.unit)) c.self.view_is ∙ c.requires)
